-- A region that serves is not refused, and serves then.
use Rattle.std.proofs.Common.{subst}
use Rattle.pn_tablet.specs.Steps.{Refuses}
use Rattle.pn_region.specs.Recovery.{after_relayout, is_memory}
use Rattle.pn_region.specs.declared.fault.RelayoutFault.{RelayoutFault}
use Rattle.pn_region.proofs.Relaying.{relays}
use Rattle.pn_serve.proofs.Recutting.{relays_always}
use Rattle.pn_serve.proofs.copies.starting.copies_in.Goals as goal

pub copies_of-requires : goal.copies_of-requires
copies_of-requires c = (relays c.args.region.state c.relayout.new.self.state c.args.layout c.in-Ok.ensures.ok).serve

pub unreachable-requires : goal.unreachable-requires
unreachable-requires c =
    relays_always c.args.region.state c.args.layout c.in-Err-StillRecovering.field-0-0 c.requires
    (subst (λ (fault : RelayoutFault). Refuses is_memory fault (after_relayout c.args.region.state c.args.layout)) c.in-Err-StillRecovering.field-0-is c.in-Err-StillRecovering.ensures.refused)

-- The draft is the state after the join that it lacks.
use Rattle.std.proofs.Common.{subst}
use Rattle.pn_tablet.specs.Tablets.{TabletStateValue}
use Rattle.pn_live.specs.Attempts.{caught_up}
use Rattle.pn_live.proofs.Appending.{Applies}
use Rattle.pn_live.proofs.live_tablet.state_draft.StateDraftSlot.apply.Goals as goal

pub returns : goal.returns
returns c =
    let new = caught_up c.apply_to.new.state c.apply_to.new.lacks in
    let op = c.args.op.now in
    let done = c.apply_to.ensures in
    let applies = subst (λ (old : TabletStateValue). Applies old new op c.apply_to.result) c.self.view_is (record { ok = done.ok; changes = done.changes; refused = done.refused; err = done.err }) in
    record { ok = applies.ok; changes = applies.changes; refused = applies.refused; err = applies.err }

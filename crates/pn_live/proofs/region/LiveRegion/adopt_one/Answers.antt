-- The call did the event.
use Rattle.std.proofs.Common.{subst}
use Rattle.pn_tablet.specs.Copies.{TabletCopyValue, IsCopy}
use Rattle.pn_live.proofs.region.LiveRegion.adopt_one.Goals as goal

pub returns-in-Ok-clause-ok : goal.returns-in-Ok-clause-ok
returns-in-Ok-clause-ok g c = (subst (λ (x : TabletCopyValue). IsCopy x.range x.marks x.cells) c.copy.view_is c.copy.invariant, c.in-Ok.ensures.ok)

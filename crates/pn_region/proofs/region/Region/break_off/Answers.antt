-- The tablets stay.
use Rattle.std.proofs.Common.{ap, subst}
use Rattle.pn_region.specs.Rounds.{Leaves}
use Rattle.pn_region.proofs.Common.{LoggedRegion, RegionValue, Memory}
use Rattle.pn_region.proofs.RoundEnds.{same_left}
use Rattle.pn_region.proofs.region.Region.break_off.Goals as goal

pub returns-clause-err : goal.returns-clause-err
returns-clause-err c = λ deliveries.
    let inside = c.self.inside in
    let old : RegionValue = record { layout = inside.layout; tablets = inside.tablets.items; marks = inside.marks } in
    subst (λ (r : RegionValue). Leaves Memory r deliveries old) (ap (λ (l : LoggedRegion). l.state) c.self.view_is) (same_left old deliveries c.self.invariant.is_region Memory)

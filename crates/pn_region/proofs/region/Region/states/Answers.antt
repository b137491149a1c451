-- There is a tablet for each range.
use Rattle.std.proofs.Common.{◌≡◌, ◌+◌, length, ap, subst}
use Rattle.pn_region.proofs.Common.{LoggedRegion, RegionValue}
use Rattle.pn_region.proofs.RoundSteps.{tablet_count}
use Rattle.pn_region.proofs.region.Region.states.Goals as goal

pub returns-clause-count : goal.returns-clause-count
returns-clause-count c =
    let inside = c.self.inside in
    subst (λ (r : RegionValue). length r.tablets ≡ length r.layout + 1) (ap (λ (r : LoggedRegion). r.state) c.self.view_is)
    (tablet_count inside.marks inside.layout inside.tablets.items c.self.invariant.is_region.tablets)

-- There is a tablet of each number, and it is that of the number.
use Rattle.std.proofs.Common.{◌≡◌, length, ap, subst, arith}
use Rattle.pn_region.proofs.Common.{slice_get, Some, LoggedRegion, RegionValue, IsRegion}
use Rattle.pn_region.proofs.RoundSteps.{tablet_count, tablet_at}
use Rattle.pn_region.proofs.Standing.{state_at}
use Rattle.pn_region.proofs.region.Region.state.Goals as goal

pub index-requires : goal.index-requires
index-requires c =
    let inside = c.self.inside in
    let count = tablet_count inside.marks inside.layout inside.tablets.items c.self.invariant.is_region.tablets in
    let layout = ap (λ (r : LoggedRegion). length r.state.layout) c.self.view_is in
    omega (arith, count, layout, c.requires, inside.tablets.ok.0)

pub returns-clause-there : goal.returns-clause-there
returns-clause-there c =
    let inside = c.self.inside in
    let count = tablet_count inside.marks inside.layout inside.tablets.items c.self.invariant.is_region.tablets in
    let layout = ap (λ (r : LoggedRegion). length r.state.layout) c.self.view_is in
    subst (λ (r : RegionValue). slice_get r.tablets c.args.tablet ≡ Some c.index.result.now) (ap (λ (r : LoggedRegion). r.state) c.self.view_is)
    (tablet_at inside.tablets.items c.args.tablet c.index.result.now (omega (arith, count, layout, c.requires)) c.index.ensures)

pub returns-clause-of : goal.returns-clause-of
returns-clause-of c = state_at c.args.self.now.state (subst IsRegion (ap (λ (r : LoggedRegion). r.state) c.self.view_is) c.self.invariant.is_region) c.args.tablet c.index.result.now c.requires (returns-clause-there c)

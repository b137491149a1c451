-- The tablet is there, and what a loss makes of it.
use Rattle.std.proofs.Common.{◌≡◌, length, get_or, Ok, ap, ◌∙◌, subst, arith}
use Rattle.std.proofs.lemmas.List.{length-map}
use Rattle.pn_tablet.specs.Steps.{step}
use Rattle.pn_tablet.specs.declared.state.TabletOp.TheVariants.{Lose}
use Rattle.pn_region.specs.Regions.{IsRegion}
use Rattle.pn_region.proofs.RoundSteps.{tablet_count}
use Rattle.pn_region.proofs.OneTablet.{stepping_is}
use Rattle.pn_live.specs.LiveRegions.{LiveRegionValue, core}
use Rattle.pn_live.specs.PublishedTablets.{PublishedTabletValue, state_at}
use Rattle.pn_live.proofs.Adopting.{known_of}
use Rattle.pn_live.proofs.region.LiveRegion.lose.Goals as goal

pub index-requires : goal.index-requires
index-requires g c =
    let inside = c.self.inside in
    let old : LiveRegionValue = record { layout = inside.layout; tablets = inside.tablets.items; marks = inside.marks; log = inside.log; order = inside.order } in
    let count = tablet_count old.marks old.layout (core old).tablets c.self.invariant.is_region.tablets in
    let layout = ap (λ (l : LiveRegionValue). length l.layout) c.self.view_is in
    omega (arith, count, length-map old.tablets state_at, layout, c.requires, inside.tablets.ok.0)

pub publish_one-requires-clause-next : goal.publish_one-requires-clause-next
publish_one-requires-clause-next g c =
    let live = c.args.self.now in
    let n = c.args.tablet in
    let tablet = c.index.result.now in
    let is = subst (λ (l : LiveRegionValue). IsRegion (core l)) c.self.view_is c.self.invariant.is_region in
    let count = tablet_count live.marks live.layout (core live).tablets is.tablets in
    known_of live.tablets n tablet (λ (p : PublishedTabletValue). step (state_at p) Lose ≡ Ok c.in_ok-next.next)
    (omega (arith, count, length-map live.tablets state_at, c.requires))
    (c.index.ensures ∙ ap (λ (l : LiveRegionValue). get_or l.tablets n tablet) c.self.view_is) c.in_ok-next.ensures

pub publish_one-requires-clause-region : goal.publish_one-requires-clause-region
publish_one-requires-clause-region g c =
    stepping_is (core c.args.self.now) c.args.tablet Lose tt (subst (λ (l : LiveRegionValue). IsRegion (core l)) c.self.view_is c.self.invariant.is_region)

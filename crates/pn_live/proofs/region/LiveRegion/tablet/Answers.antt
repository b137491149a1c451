-- There is a tablet of each number, with the state of what is published.
use Rattle.std.proofs.Common.{length, slice_get, Some, sym, ap, ◌∙◌, arith}
use Rattle.std.proofs.lemmas.List.{length-map}
use Rattle.pn_region.proofs.RoundSteps.{tablet_count}
use Rattle.pn_live.specs.LiveRegions.{LiveRegionValue, core}
use Rattle.pn_live.specs.PublishedTablets.{state_at}
use Rattle.pn_live.proofs.Adopting.{state_there}
use Rattle.pn_live.proofs.region.LiveRegion.tablet.Goals as goal

pub index-requires : goal.index-requires
index-requires c =
    let inside = c.self.inside in
    let old : LiveRegionValue = record { layout = inside.layout; tablets = inside.tablets.items; marks = inside.marks; log = inside.log; order = inside.order } in
    let count = tablet_count old.marks old.layout (core old).tablets c.self.invariant.is_region.tablets in
    let layout = ap (λ (l : LiveRegionValue). length l.layout) c.self.view_is in
    omega (arith, count, length-map old.tablets state_at, layout, c.requires, inside.tablets.ok.0)

pub returns : goal.returns
returns c =
    let inside = c.self.inside in
    let n = c.args.number in
    let tablet = c.index.result.now in
    let old : LiveRegionValue = record { layout = inside.layout; tablets = inside.tablets.items; marks = inside.marks; log = inside.log; order = inside.order } in
    let count = tablet_count old.marks old.layout (core old).tablets c.self.invariant.is_region.tablets in
    let layout = ap (λ (l : LiveRegionValue). length l.layout) c.self.view_is in
    ap (λ (l : LiveRegionValue). slice_get (core l).tablets n) (sym c.self.view_is)
    ∙ state_there old.tablets n tablet (omega (arith, count, length-map old.tablets state_at, layout, c.requires)) c.index.ensures
    ∙ ap Some (sym c.state.ensures)

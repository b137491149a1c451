-- The tablets that are made of the old ones are those of a region.
use Rattle.std.proofs.Common.{List, map, sym, ap, ◌∙◌, subst, IsTrue}
use Rattle.pn_tablet.specs.Layouts.{IsLayout}
use Rattle.pn_region.specs.Regions.{IsLawfulRegion}
use Rattle.pn_region.specs.Recovery.{made_of}
use Rattle.pn_region.proofs.Common.{is_sorted, bytes_cmp, TabletStateValue, ranges, RegionValue}
use Rattle.pn_region.proofs.TakenImages.{all_rising}
use Rattle.pn_region.proofs.Pieces.{cells_of}
use Rattle.pn_region.proofs.Relaying.{relaid_is}
use Rattle.pn_region.proofs.region.Region.relayout.Goals as goal

pub build_tablets-requires : goal.build_tablets-requires
build_tablets-requires c =
    let inside = c.self.inside in
    let old : RegionValue = record { layout = inside.layout; tablets = inside.tablets.items; marks = inside.marks } in
    subst (λ (ts : List TabletStateValue). IsTrue (is_sorted bytes_cmp (cells_of ts))) (sym c.deref-2.ensures.value) (all_rising old c.self.invariant.is_region)

pub invariant_of-self : goal.invariant_of-self
invariant_of-self c =
    let inside = c.self.inside in
    let old : RegionValue = record { layout = inside.layout; tablets = inside.tablets.items; marks = inside.marks } in
    let made = c.in_ok-tablets.ensures ∙ ap (λ (ts : List TabletStateValue). map (made_of ts) (ranges c.args.layout)) c.deref-2.ensures.value in
    subst (λ (ts : List TabletStateValue). IsLawfulRegion (record { layout = c.args.layout; tablets = ts; marks = inside.marks })) (sym made)
    (record { is_region = relaid_is old c.args.layout (subst IsLayout c.layout.view_is c.layout.invariant) c.self.invariant.is_region; are_marks = c.self.invariant.are_marks })

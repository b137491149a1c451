-- The region of all that was published.
use Rattle.std.proofs.Common.{◌≡◌, List, map, sym, ◌∙◌, subst}
use Rattle.std.specs.List.{AllByRecursion}
use Rattle.pn_apply.specs.Reducing.{ranges}
use Rattle.pn_region.specs.Regions.{ArePartsOf}
use Rattle.pn_region.proofs.RoundSteps.{own_ranges}
use Rattle.pn_live.specs.LiveRegions.{LiveRegionValue, IsReaderIn}
use Rattle.pn_live.specs.PublishedTablets.{PublishedTabletValue, state_at}
use Rattle.pn_live.specs.Readers.{ReadsFrom}
use Rattle.pn_live.proofs.Learning.{all_read, ranges_of_tablets, parts_of_tablets}
use Rattle.pn_live.proofs.region.LiveRegion.close.Goals as goal

pub was_all_seen-all_seen-requires : goal.was_all_seen-all_seen-requires
was_all_seen-all_seen-requires g c =
    let inside = c.self.inside in
    let live : LiveRegionValue = record { layout = inside.layout; tablets = inside.tablets.items; marks = inside.marks; log = inside.log; order = inside.order } in
    let own : map (λ (p : PublishedTabletValue). p.range) live.tablets ≡ ranges live.layout =
    sym (ranges_of_tablets live.tablets) ∙ own_ranges live.marks (ranges live.layout) (map state_at live.tablets) c.self.invariant.is_region.tablets in
    subst (λ (ps : List PublishedTabletValue). AllByRecursion (ReadsFrom ps) c.args.readers.items) (sym c.deref.ensures.value)
    (all_read live c.args.readers.items own (subst (λ (l : LiveRegionValue). AllByRecursion (IsReaderIn l) c.args.readers.items) (sym c.self.view_is) c.requires))

pub of_parts-requires-clause-tablets : goal.of_parts-requires-clause-tablets
of_parts-requires-clause-tablets g c =
    let inside = c.self.inside in
    subst (ArePartsOf inside.marks (ranges inside.layout)) (sym c.in_ok-states.ensures)
    (parts_of_tablets inside.marks (ranges inside.layout) (map state_at inside.tablets.items) c.self.invariant.is_region.tablets)

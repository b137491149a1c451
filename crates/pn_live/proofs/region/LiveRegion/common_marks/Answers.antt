-- The marks that were found are those of a region that advances.
use Rattle.std.proofs.Common.{◌≡◌, List, map, Ok, sym, ap, ◌∙◌, subst}
use Rattle.pn_region.specs.Recovery.{common_marks, after_advance, with_marks}
use Rattle.pn_region.proofs.Advanced.{advanced_to}
use Rattle.pn_live.specs.LiveRegions.{LiveRegionValue, core}
use Rattle.pn_live.specs.PublishedTablets.{PublishedTabletValue, state_at}
use Rattle.pn_live.proofs.region.LiveRegion.common_marks.Goals as goal

pub returns-clause-ok : goal.returns-clause-ok
returns-clause-ok c =
    let inside = c.self.inside in
    let live : LiveRegionValue = record { layout = inside.layout; tablets = inside.tablets.items; marks = inside.marks; log = inside.log; order = inside.order } in
    let found : common_marks (map state_at live.tablets) ≡ Ok c.in_ok-common_marks.field-0 =
    ap (λ (ps : List PublishedTabletValue). common_marks (map state_at ps)) (sym c.deref.ensures.value) ∙ c.in_ok-common_marks.ensures.ok in
    subst (λ (l : LiveRegionValue). after_advance (core l) ≡ Ok (with_marks (core l) c.in_ok-common_marks.field-0)) c.self.view_is (advanced_to (core live) c.in_ok-common_marks.field-0 found)

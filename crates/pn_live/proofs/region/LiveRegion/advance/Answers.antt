-- The new marks are those of a region, and nothing else changes.
use Rattle.std.proofs.Common.{◌≡◌, List, map, Ok, sym, ap, ◌∙◌}
use Rattle.pn_region.specs.Recovery.{common_marks, after_advance}
use Rattle.pn_region.proofs.Advanced.{advanced_lawful, advanced_to}
use Rattle.pn_live.specs.LiveRegions.{LiveRegionValue, core}
use Rattle.pn_live.specs.PublishedTablets.{PublishedTabletValue, state_at}
use Rattle.pn_live.proofs.region.LiveRegion.advance.Goals as goal

pub invariant_of-self : goal.invariant_of-self
invariant_of-self c =
    let inside = c.self.inside in
    let old : LiveRegionValue = record { layout = inside.layout; tablets = inside.tablets.items; marks = inside.marks; log = inside.log; order = inside.order } in
    let found : common_marks (map state_at old.tablets) ≡ Ok c.in_ok-self-inside.field-0 =
    ap (λ (ps : List PublishedTabletValue). common_marks (map state_at ps)) (sym c.deref.ensures.value) ∙ c.in_ok-self-inside.ensures.ok in
    advanced_lawful (core old) c.in_ok-self-inside.field-0 found c.in_ok-self-inside.ensures.few c.in_ok-self-inside.ensures.positions c.self.invariant

pub returns-clause-ok : goal.returns-clause-ok
returns-clause-ok c =
    let inside = c.self.inside in
    let old : LiveRegionValue = record { layout = inside.layout; tablets = inside.tablets.items; marks = inside.marks; log = inside.log; order = inside.order } in
    let found : common_marks (map state_at old.tablets) ≡ Ok c.in_ok-self-inside.field-0 =
    ap (λ (ps : List PublishedTabletValue). common_marks (map state_at ps)) (sym c.deref.ensures.value) ∙ c.in_ok-self-inside.ensures.ok in
    record {
      advanced = ap (λ (l : LiveRegionValue). after_advance (core l)) (sym c.self.view_is) ∙ advanced_to (core old) c.in_ok-self-inside.field-0 found;
      rest = ap (λ (l : LiveRegionValue). record l { marks = c.in_ok-self-inside.field-0 }) c.self.view_is;
    }

-- The new marks are those of a region.
use Rattle.std.proofs.Common.{◌≡◌, map, Ok, sym, ap, ◌∙◌}
use Rattle.pn_region.specs.Recovery.{common_marks}
use Rattle.pn_region.proofs.Advanced.{advanced_lawful}
use Rattle.pn_region.proofs.Common.{TabletStateValue, RegionValue}
use Rattle.pn_region.proofs.RoundSteps.{same_list}
use Rattle.pn_region.proofs.region.Region.advance.Goals as goal

pub invariant_of-self : goal.invariant_of-self
invariant_of-self c =
    let inside = c.self.inside in
    let old : RegionValue = record { layout = inside.layout; tablets = inside.tablets.items; marks = inside.marks } in
    let found : common_marks old.tablets ≡ Ok c.in_ok-self-inside.field-0 =
    ap common_marks (sym (same_list old.tablets) ∙ ap (map (λ (t : TabletStateValue). t)) (sym c.deref.ensures.value)) ∙ c.in_ok-self-inside.ensures.ok in
    advanced_lawful old c.in_ok-self-inside.field-0 found c.in_ok-self-inside.ensures.few c.in_ok-self-inside.ensures.positions c.self.invariant

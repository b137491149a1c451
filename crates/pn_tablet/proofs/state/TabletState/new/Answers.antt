-- An empty tablet has an empty reach and a copy of it.
use Rattle.std.proofs.Common.{true, refl, sym, ap, subst, ◌∙◌, ◌≡◌}
use Rattle.pn_tablet.specs.Tablets.{lie_in, CoverageValue}
use Rattle.pn_tablet.proofs.Keeping.{emptied}
use Rattle.pn_tablet.proofs.state.TabletState.new.Goals as goal

pub invariant_of-result : goal.invariant_of-result
invariant_of-result c = record {
  inside = subst (λ m. lie_in c.args.range m ≡ true) (sym c.new.ensures) refl;
  spelled = emptied c.new.result c.new.ensures;
  needed_positions = refl;
  has_need = c.new-3.ensures ∙ sym (ap (λ (p : CoverageValue). p.reach) c.new-2.ensures);
}

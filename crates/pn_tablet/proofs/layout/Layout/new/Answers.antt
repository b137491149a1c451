-- Bounds without a fall rise.
use Rattle.std.proofs.Common.{arith, sym, ap, ◌∙◌}
use Rattle.pn_tablet.specs.Layouts.{first_fall}
use Rattle.pn_tablet.proofs.LayoutFacts.{rising_from_none}
use Rattle.pn_tablet.proofs.layout.Layout.new.Goals as goal

pub invariant_of-result : goal.invariant_of-result
invariant_of-result c = record { few = omega arith; rising = rising_from_none _ (sym (ap first_fall c.deref.ensures.value) ∙ sym c.first_fall.ensures ∙ c.in-None.is) }

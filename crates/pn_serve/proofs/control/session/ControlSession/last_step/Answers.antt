-- The first step is the last one, unless it announces lines.
use Rattle.std.proofs.Common.{List, ℕ, sym, subst}
use Rattle.std.specs.Prelude.{Some}
use Rattle.pn_serve.specs.Control.Steps.{AdoptsText, Lasts}
use Rattle.pn_serve.specs.declared.control.steps.ControlStep.{ControlStep}
use Rattle.pn_serve.proofs.control.session.ControlSession.last_step.Goals as goal

pub returns-in-Announces : goal.returns-in-Announces
returns-in-Announces g c = record {
  first = c.step.result;
  steps = c.step.ensures;
  lasts = subst (λ (first : ControlStep). Lasts first c.adopt.result) (sym c.in-Announces.is) (subst (λ (came : List ℕ). AdoptsText (Some came) c.adopt.result) c.new.ensures.items c.adopt.ensures);
}

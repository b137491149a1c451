-- The text is a copy, or none.
use Rattle.std.proofs.Common.{ℕ, sym, subst}
use Rattle.std.specs.Prelude.{Option, Vec}
use Rattle.std.specs.declared.alloc.Global.{Global}
use Rattle.pn_serve.specs.Control.Steps.{AdoptsText}
use Rattle.pn_serve.specs.Machine.Outcomes.{bytes_of}
use Rattle.pn_serve.specs.declared.control.steps.ControlStep.TheVariants.{Replies}
use Rattle.pn_serve.proofs.ControlSteps.{read_copy, read_fault}
use Rattle.pn_serve.proofs.control.session.ControlSession.adopt.Goals as goal

pub returns-in-Ok : goal.returns-in-Ok
returns-in-Ok g c = subst (λ (t : Option (Vec ℕ Global)). AdoptsText (bytes_of t) c.ask.result) (sym c.in-Some.is) (read_copy c.in-Some.text.items _ _ c.in-Ok.ensures c.ask.ensures)

pub returns-in-Err : goal.returns-in-Err
returns-in-Err g c = subst (λ (t : Option (Vec ℕ Global)). AdoptsText (bytes_of t) (Replies c.refuse.result)) (sym c.in-Some.is) (read_fault c.in-Some.text.items _ _ c.in-Err.ensures c.refuse.ensures)

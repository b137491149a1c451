-- The end of the input was answered by the region, which waits for a command then.
use Rattle.std.proofs.Common.{sym, ap, ◌∙◌, subst}
use Rattle.pn_serve.specs.Machine.Turns.{Concludes}
use Rattle.pn_serve.specs.Machine.Outcomes.{with_mode, Machine, machine_over}
use Rattle.pn_serve.proofs.Serving.{concludes_kept}
use Rattle.pn_serve.proofs.machine.script_handler.ScriptHandler.answer_end.Goals as goal

pub returns : goal.returns
returns g c = λ text is.
    let inside = c.self.inside in
    let was = ap (λ waits. with_mode waits inside.region) c.take-announced.ensures.value ∙ c.self.view_is in
    let now = sym (ap (λ waits. with_mode waits c.answer_end.new.region) c.take-announced.ensures.after) in
    subst (λ (m : Machine). Concludes c.args.self.now text m c.answer_end.result) now
    (concludes_kept c.args.self.now (machine_over c.answer_end.new.region) c.args.part.now text c.answer_end.result is
    (subst (λ (m : Machine). Concludes m c.args.part.now (machine_over c.answer_end.new.region) c.answer_end.result) was c.answer_end.ensures))

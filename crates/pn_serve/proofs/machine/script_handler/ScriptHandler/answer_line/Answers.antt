-- The line was answered by the region.
use Rattle.std.proofs.Common.{ap, ◌∙◌, subst}
use Rattle.pn_serve.specs.Machine.Turns.{Answers}
use Rattle.pn_serve.specs.Machine.Outcomes.{with_mode, Machine}
use Rattle.pn_serve.proofs.Serving.{answers_kept}
use Rattle.pn_serve.proofs.machine.script_handler.ScriptHandler.answer_line.Goals as goal

pub returns : goal.returns
returns g c = λ text is.
    let inside = c.self.inside in
    let was = ap (λ waits. with_mode waits inside.region) c.take-waiting.ensures.value ∙ c.self.view_is in
    answers_kept c.args.self.now _ c.args.line.now text c.answer_line-reply.result.0 is
    (subst (λ (m : Machine). Answers m c.args.line.now (with_mode c.answer_line-reply.result.1 c.answer_line-reply.new.region) c.answer_line-reply.result.0) was c.answer_line-reply.ensures)

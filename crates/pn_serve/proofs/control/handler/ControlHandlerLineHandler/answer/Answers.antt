-- The line has its reply at once.
use Rattle.std.proofs.Common.{refl, sym, subst}
use Rattle.pn_lines.specs.Answers.{AnswerValue, AnswersBy}
use Rattle.pn_serve.specs.Control.Lines.{controls}
use Rattle.pn_serve.specs.declared.sessions.pending_lookup.PendingLookup.{PendingLookup}
use Rattle.pn_serve.proofs.control.handler.ControlHandlerLineHandler.answer.Goals as goal

pub returns-clause-answers : goal.returns-clause-answers
returns-clause-answers g c = λ text is.
    subst (λ (a : AnswerValue PendingLookup). AnswersBy controls c.args.self.now c.args.ended text c.reply_to.new.self a) (sym c.answered.ensures.answer)
    (record { reply = c.reply_to.result; shown = refl; made = c.reply_to.ensures.answers text is })

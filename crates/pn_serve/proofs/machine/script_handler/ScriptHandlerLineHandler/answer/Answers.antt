-- The line has its reply at once.
use Rattle.std.proofs.Common.{refl, sym, subst}
use Rattle.pn_lines.specs.Answers.{AnswerValue, AnswersBy}
use Rattle.pn_lines.specs.Handling.{by}
use Rattle.pn_scan.specs.Paging.{Stays}
use Rattle.pn_serve.specs.Lines.{Replies}
use Rattle.pn_serve.specs.Machine.Turns.{Answers, Concludes}
use Rattle.pn_serve.specs.declared.sessions.pending_lookup.PendingLookup.{PendingLookup}
use Rattle.pn_serve.proofs.machine.script_handler.ScriptHandlerLineHandler.answer.Goals as goal

pub returns-clause-answers : goal.returns-clause-answers
returns-clause-answers g c = λ text is.
    subst (λ (a : AnswerValue PendingLookup). AnswersBy (by Stays (Replies Answers Concludes) (λ _ _ _ _ _. ⊥) (λ _. ⊥)) c.args.self.now c.args.ended text c.reply_to.new.self a) (sym c.answered.ensures.answer)
    (record { reply = c.reply_to.result; shown = refl; made = c.reply_to.ensures text is })

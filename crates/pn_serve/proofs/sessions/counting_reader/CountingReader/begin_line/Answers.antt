-- The line was answered by its first bytes, or there is none.
use Rattle.std.proofs.Common.{sym, subst}
use Rattle.pn_lines.specs.Answers.{AnswerValue, AnswersBy}
use Rattle.pn_serve.specs.Session.Resuming.{KnowsNoLess, reads_lines}
use Rattle.pn_serve.specs.declared.sessions.pending_lookup.PendingLookup.{PendingLookup}
use Rattle.pn_serve.proofs.Knowing.{answer_knows, knows_itself, knows_preorder, moves_knows}
use Rattle.pn_serve.proofs.Lookups.{answers_by, answers_none, when_false, when_true}
use Rattle.pn_serve.proofs.sessions.counting_reader.CountingReader.begin_line.Goals as goal

pub returns-then-is_no_line-clause-answers : goal.returns-then-is_no_line-clause-answers
returns-then-is_no_line-clause-answers c text is =
    subst (λ (a : AnswerValue PendingLookup). AnswersBy (reads_lines KnowsNoLess) c.args.self.now c.args.ended text c.args.self.now a) (sym c.answered.ensures.answer)
    (answers_none KnowsNoLess c.args.self.now c.args.ended c.args.line.now text is (when_true _ c.if-is_no_line.true _ _ c.is_no_line.ensures))

pub returns-then-is_no_line-clause-kept : goal.returns-then-is_no_line-clause-kept
returns-then-is_no_line-clause-kept c = knows_itself _

pub returns-clause-answers : goal.returns-clause-answers
returns-clause-answers c text is =
    subst (λ (a : AnswerValue PendingLookup). AnswersBy (reads_lines KnowsNoLess) c.args.self.now c.args.ended text c.answer_line.new.self a) (sym c.answered-2.ensures.answer)
    (answers_by KnowsNoLess knows_preorder c.args.self.now c.answer_line.new.self c.args.ended c.args.line.now text c.answer_line.result is (when_false _ c.if-is_no_line.false _ _ c.is_no_line.ensures) c.answer_line.ensures.answers)

pub returns-clause-kept : goal.returns-clause-kept
returns-clause-kept c = answer_knows KnowsNoLess moves_knows _ _ _ _ c.answer_line.ensures.answers

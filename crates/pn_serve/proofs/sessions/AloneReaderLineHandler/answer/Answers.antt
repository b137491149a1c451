-- The line was answered by its first bytes, or there is none.
use Rattle.std.proofs.Common.{refl, sym, subst}
use Rattle.pn_lines.specs.Answers.{AnswerValue, AnswersBy}
use Rattle.pn_scan.specs.Paging.{Stays}
use Rattle.pn_serve.specs.Session.Resuming.{alone_reads, reader_of}
use Rattle.pn_serve.specs.declared.machine.line_answers.LineOutcome.TheVariants.{Done}
use Rattle.pn_protocol.specs.declared.reply.Reply.TheVariants.{Silent}
use Rattle.pn_serve.specs.declared.sessions.AloneReader.{AloneReader}
use Rattle.pn_serve.specs.declared.sessions.pending_lookup.PendingLookup.{PendingLookup}
use Rattle.pn_serve.proofs.Knowing.{answer_knows, knows_itself, stays_knows, stays_preorder}
use Rattle.pn_serve.proofs.Lookups.{answers_by, answers_none, seen_alone, when_false, when_true}
use Rattle.pn_serve.proofs.sessions.AloneReaderLineHandler.answer.Goals as goal

pub returns-then-is_no_line-clause-answers : goal.returns-then-is_no_line-clause-answers
returns-then-is_no_line-clause-answers c text is =
    subst (λ (a : AnswerValue PendingLookup). AnswersBy alone_reads c.args.self.now c.args.ended text c.args.self.now a) (sym c.answered.ensures.answer)
    (seen_alone reader_of c.args.self.now c.args.self.now c.args.ended text (Done Silent)
    (answers_none Stays c.args.self.now.reader.now c.args.ended c.args.line.now text is (when_true _ c.if-is_no_line.true _ _ c.is_no_line.ensures)))

pub returns-then-is_no_line-clause-kept : goal.returns-then-is_no_line-clause-kept
returns-then-is_no_line-clause-kept c = (knows_itself _, refl)

pub returns-clause-answers : goal.returns-clause-answers
returns-clause-answers c text is =
    let now : AloneReader = record { reader = record c.args.self.now.reader { now = c.answer_line.new.reader } } in
    subst (λ (a : AnswerValue PendingLookup). AnswersBy alone_reads c.args.self.now c.args.ended text now a) (sym c.answered-2.ensures.answer)
    (seen_alone reader_of c.args.self.now now c.args.ended text c.answer_line.result
    (answers_by Stays stays_preorder c.args.self.now.reader.now c.answer_line.new.reader c.args.ended c.args.line.now text c.answer_line.result is (when_false _ c.if-is_no_line.false _ _ c.is_no_line.ensures) c.answer_line.ensures.answers))

pub returns-clause-kept : goal.returns-clause-kept
returns-clause-kept c = (answer_knows Stays stays_knows _ _ _ _ c.answer_line.ensures.answers, refl)

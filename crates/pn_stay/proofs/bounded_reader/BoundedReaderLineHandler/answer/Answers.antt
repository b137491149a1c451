-- A line begins.
use Rattle.std.proofs.Common.{subst}
use Rattle.pn_lines.specs.Answers.{AnswersBy, answer_of}
use Rattle.pn_live.specs.Readers.{LiveReaderValue}
use Rattle.pn_serve.specs.Lines.{pieces_left}
use Rattle.pn_serve.specs.Session.Resuming.{KnowsNoLess}
use Rattle.pn_stay.specs.Looks.{bounded_reads}
use Rattle.pn_stay.proofs.Looks.{begins_under}
use Rattle.pn_stay.proofs.bounded_reader.BoundedReaderLineHandler.answer.Goals as goal

pub returns-clause-answers : goal.returns-clause-answers
returns-clause-answers c text is =
    subst (λ (r : LiveReaderValue). AnswersBy bounded_reads r c.args.ended text c.begin_line-answer.new.self (answer_of pieces_left c.looked_for.result))
    c.self.view_is
    (begins_under c.self.inside.reader c.begin_line-answer.new.self c.args.ended c.args.line.now text c.begin_line-answer.result.answer c.looked_for.result
    is c.begin_line-answer.ensures.kept (c.begin_line-answer.ensures.answers text is) c.looked_for.ensures)

pub returns-clause-kept : goal.returns-clause-kept
returns-clause-kept c = subst (λ (r : LiveReaderValue). KnowsNoLess r c.begin_line-answer.new.self) c.self.view_is c.begin_line-answer.ensures.kept

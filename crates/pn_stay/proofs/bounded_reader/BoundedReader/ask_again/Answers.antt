-- The line waits on, or is asked again.
use Rattle.std.proofs.Common.{sym, subst, ◌∙◌, arith}
use Rattle.pn_lines.specs.Answers.{answer_of}
use Rattle.pn_lines.specs.declared.handler.LineOutcome.TheVariants.{Pending as GoesOn}
use Rattle.pn_live.specs.Readers.{LiveReaderValue}
use Rattle.pn_serve.specs.Lines.{pieces_left}
use Rattle.pn_serve.specs.Proofs.{knows_itself}
use Rattle.pn_serve.specs.Session.Resuming.{KnowsNoLess}
use Rattle.pn_stay.specs.Looks.{AsksAgain}
use Rattle.pn_stay.specs.declared.bounded_reader.BoundedLookup.TheVariants.{PutOff}
use Rattle.pn_stay.proofs.Looks.{asks_under, left_begun, waits_on}
use Rattle.pn_stay.proofs.bounded_reader.BoundedReader.ask_again.Goals as goal

pub returns-then-must_wait-clause-asks : goal.returns-then-must_wait-clause-asks
returns-then-must_wait-clause-asks c =
    let answer = answer_of pieces_left (GoesOn (PutOff c.args.line c.args.weight 0)) in
    subst (λ (r : LiveReaderValue). AsksAgain c.args.self.now r c.args.line c.args.waits answer) (sym c.self.view_is)
    (waits_on c.args.self.now c.args.line c.args.waits c.args.weight 0)

pub returns-then-must_wait-clause-nearer : goal.returns-then-must_wait-clause-nearer
returns-then-must_wait-clause-nearer c = omega (arith, c.must_wait.ensures c.if-must_wait.true)

pub returns-then-must_wait-clause-kept : goal.returns-then-must_wait-clause-kept
returns-then-must_wait-clause-kept c = subst (λ (r : LiveReaderValue). KnowsNoLess c.args.self.now r) (sym c.self.view_is) (knows_itself c.args.self.now)

pub returns-clause-asks : goal.returns-clause-asks
returns-clause-asks c =
    subst (λ (r : LiveReaderValue). AsksAgain r c.begin_line-answer.new.self c.args.line c.args.waits (answer_of pieces_left c.looked_under.result))
    c.self.view_is
    (asks_under c.self.inside.reader c.begin_line-answer.new.self c.args.line c.args.waits c.begin_line-answer.result.answer c.looked_under.result
    (λ text is. c.begin_line-answer.ensures.answers text (c.deref.ensures.value ∙ is)) c.begin_line-answer.ensures.kept c.looked_under.ensures)

pub returns-clause-nearer : goal.returns-clause-nearer
returns-clause-nearer c =
    left_begun c.begin_line-answer.result.answer c.looked_under.result c.args.waits c.begin_line-answer.ensures.bounded c.looked_under.ensures

pub returns-clause-kept : goal.returns-clause-kept
returns-clause-kept c = subst (λ (r : LiveReaderValue). KnowsNoLess r c.begin_line-answer.new.self) c.self.view_is c.begin_line-answer.ensures.kept

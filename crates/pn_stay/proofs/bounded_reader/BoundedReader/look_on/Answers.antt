-- The look goes on, or its reply is settled.
use Rattle.std.proofs.Common.{ap, sym, subst, inl}
use Rattle.pn_lines.specs.Answers.{answer_of}
use Rattle.pn_lines.specs.declared.handler.LineOutcome.TheVariants.{Pending as GoesOn}
use Rattle.pn_live.specs.Readers.{LiveReaderValue}
use Rattle.pn_serve.specs.Lines.{pieces_left}
use Rattle.pn_serve.specs.Session.Resuming.{KnowsNoLess}
use Rattle.pn_stay.specs.Looks.{LooksOn, under}
use Rattle.pn_stay.specs.declared.bounded_reader.BoundedLookup.TheVariants.{Under}
use Rattle.pn_stay.proofs.Looks.{comes_settled, left_under, looks_under}
use Rattle.pn_stay.proofs.bounded_reader.BoundedReader.look_on.Goals as goal

pub returns-in-Pending-clause-looks : goal.returns-in-Pending-clause-looks
returns-in-Pending-clause-looks c =
    subst (λ (r : LiveReaderValue). LooksOn r c.go_on-answer.new.self c.args.pending c.args.line
    (answer_of pieces_left (GoesOn (Under c.in-Pending.pending c.args.line)))) c.self.view_is
    (looks_under c.self.inside.reader c.go_on-answer.new.self c.args.pending c.args.line c.go_on-answer.result.answer
    (GoesOn (Under c.in-Pending.pending c.args.line)) c.go_on-answer.ensures.answers c.go_on-answer.ensures.kept
    (inl (ap (under c.args.line) (sym c.in-Pending.is))))

pub returns-in-Pending-clause-nearer : goal.returns-in-Pending-clause-nearer
returns-in-Pending-clause-nearer c = λ some.
    left_under c.args.pending c.args.line c.go_on-answer.result.answer (GoesOn (Under c.in-Pending.pending c.args.line)) (c.go_on-answer.ensures.nearer some)
    (inl (ap (under c.args.line) (sym c.in-Pending.is)))

pub returns-in-Pending-clause-kept : goal.returns-in-Pending-clause-kept
returns-in-Pending-clause-kept c = subst (λ (r : LiveReaderValue). KnowsNoLess r c.go_on-answer.new.self) c.self.view_is c.go_on-answer.ensures.kept

pub returns-in-Done-clause-looks : goal.returns-in-Done-clause-looks
returns-in-Done-clause-looks c =
    subst (λ (n : LiveReaderValue). LooksOn c.args.self.now n c.args.pending c.args.line (answer_of pieces_left c.settle.result)) (sym c.settle.ensures.kept)
    (subst (λ (r : LiveReaderValue). LooksOn r c.go_on-answer.new.self c.args.pending c.args.line (answer_of pieces_left c.settle.result)) c.self.view_is
    (looks_under c.self.inside.reader c.go_on-answer.new.self c.args.pending c.args.line c.go_on-answer.result.answer c.settle.result
    c.go_on-answer.ensures.answers c.go_on-answer.ensures.kept
    (comes_settled c.args.line c.go_on-answer.result.answer c.in-Done.reply c.settle.result c.in-Done.is c.settle.ensures.settles)))

pub returns-in-Done-clause-nearer : goal.returns-in-Done-clause-nearer
returns-in-Done-clause-nearer c = λ some.
    left_under c.args.pending c.args.line c.go_on-answer.result.answer c.settle.result (c.go_on-answer.ensures.nearer some)
    (comes_settled c.args.line c.go_on-answer.result.answer c.in-Done.reply c.settle.result c.in-Done.is c.settle.ensures.settles)

pub returns-in-Done-clause-kept : goal.returns-in-Done-clause-kept
returns-in-Done-clause-kept c =
    subst (λ (n : LiveReaderValue). KnowsNoLess c.args.self.now n) (sym c.settle.ensures.kept)
    (subst (λ (r : LiveReaderValue). KnowsNoLess r c.go_on-answer.new.self) c.self.view_is c.go_on-answer.ensures.kept)

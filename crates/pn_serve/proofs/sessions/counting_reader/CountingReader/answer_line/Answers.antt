-- What a reader that is alone answers, one that is shared answers too.
use Rattle.std.proofs.Common.{sym, subst}
use Rattle.pn_live.specs.Readers.{LiveReaderValue}
use Rattle.pn_serve.specs.declared.machine.line_answers.LineOutcome.{LineOutcome}
use Rattle.pn_serve.specs.Session.Resuming.{AnswersWith, KnowsNoLess, LooksFor}
use Rattle.pn_serve.specs.Session.Lines.{AnswersLine}
use Rattle.pn_serve.proofs.Knowing.{knows_preorder}
use Rattle.pn_serve.proofs.Lookups.{answers_too}
use Rattle.pn_serve.proofs.sessions.counting_reader.CountingReader.answer_line.Goals as goal

pub returns-clause-answers : goal.returns-clause-answers
returns-clause-answers c =
    subst (λ (a : LineOutcome). AnswersWith (AnswersLine KnowsNoLess) (LooksFor KnowsNoLess) c.args.self.now c.args.line.now c.count.new.self a) (sym c.count.ensures.same)
    (subst (λ (r : LiveReaderValue). AnswersWith (AnswersLine KnowsNoLess) (LooksFor KnowsNoLess) c.args.self.now c.args.line.now r c.answer_with_kind-kind.result.1) (sym c.count.ensures.kept)
    (subst (λ (r : LiveReaderValue). AnswersWith (AnswersLine KnowsNoLess) (LooksFor KnowsNoLess) r c.args.line.now c.answer_with_kind-kind.new.reader c.answer_with_kind-kind.result.1) c.self.view_is
    (answers_too KnowsNoLess knows_preorder c.self.inside.reader c.answer_with_kind-kind.new.reader c.args.line.now c.answer_with_kind-kind.result.1 c.answer_with_kind-kind.ensures.answers)))

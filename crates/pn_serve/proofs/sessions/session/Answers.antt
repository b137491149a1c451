-- A session has its reader alone, and gives it back.
use Rattle.std.proofs.Common.{sym, subst, ◌∙◌}
use Rattle.pn_live.specs.Readers.{LiveReaderValue}
use Rattle.pn_scan.specs.Paging.{Stays}
use Rattle.pn_serve.specs.Lines.{EndsBy}
use Rattle.pn_serve.specs.Session.Resuming.{reader_of, KnowsNoLess}
use Rattle.pn_serve.specs.Session.Lines.{AnswersLine, EndsLines, session_start}
use Rattle.pn_serve.proofs.Ending.{run_ends}
use Rattle.pn_serve.proofs.Knowing.{knows_itself}
use Rattle.pn_serve.proofs.sessions.session.Goals as goal

pub returns-clause-ends : goal.returns-clause-ends
returns-clause-ends g c =
    let left = g.S.Source.left c.answer_lines.new.input in
    let written = g.W.Sink.contents c.answer_lines.new.output in
    let same = c.reader-1.given.1 (sym c.new-2.ensures.same_reference ∙ sym c.answer_lines.ensures.kept.1) in
    subst (λ (now : LiveReaderValue). EndsBy (AnswersLine Stays) (EndsLines Stays) (session_start c.args.reader.now (g.S.Source.left c.args.input.now) (g.W.Sink.contents c.args.output.now)) left written now c.answer_lines.result) (sym same)
    (subst (λ (was : LiveReaderValue). EndsBy (AnswersLine Stays) (EndsLines Stays) (session_start was (g.S.Source.left c.args.input.now) (g.W.Sink.contents c.args.output.now)) left written c.answer_lines.new.machine.reader.now c.answer_lines.result)
    c.new-2.ensures.reader (run_ends reader_of (AnswersLine Stays) (EndsLines Stays) _ _ _ _ _ _ _ c.answer_lines.ensures.ends))

pub returns-clause-knows : goal.returns-clause-knows
returns-clause-knows g c =
    let same = c.reader-1.given.1 (sym c.new-2.ensures.same_reference ∙ sym c.answer_lines.ensures.kept.1) in
    subst (λ (now : LiveReaderValue). KnowsNoLess c.args.reader.now now) (sym same) (subst (λ (was : LiveReaderValue). KnowsNoLess was c.answer_lines.new.machine.reader.now) c.new-2.ensures.reader c.answer_lines.ensures.kept.0)

pub returns-in_default-clause-knows : goal.returns-in_default-clause-knows
returns-in_default-clause-knows g c = knows_itself _

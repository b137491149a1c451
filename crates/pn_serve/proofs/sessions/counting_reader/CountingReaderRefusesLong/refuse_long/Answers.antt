-- A line that is too long is refused, whatever its bytes are.
use Rattle.std.proofs.Common.{sym, subst}
use Rattle.pn_live.specs.Readers.{LiveReaderValue}
use Rattle.pn_lines.specs.Handling.{Replied}
use Rattle.pn_serve.specs.Lines.{Replies}
use Rattle.pn_serve.specs.Session.Resuming.{KnowsNoLess}
use Rattle.pn_serve.specs.Session.Lines.{AnswersLine, EndsLines}
use Rattle.pn_serve.proofs.Knowing.{knows_itself}
use Rattle.pn_serve.proofs.Lookups.{refuses_by}
use Rattle.pn_serve.proofs.sessions.counting_reader.CountingReaderRefusesLong.refuse_long.Goals as goal

pub returns-clause-answers : goal.returns-clause-answers
returns-clause-answers c text long =
    subst (λ (r : Replied). Replies (AnswersLine KnowsNoLess) (EndsLines KnowsNoLess) c.args.self.now c.args._ended text c.self.inside.reader r) (sym c.line_reply.ensures)
    (subst (λ (now : LiveReaderValue). Replies (AnswersLine KnowsNoLess) (EndsLines KnowsNoLess) c.args.self.now c.args._ended text now _) (sym c.self.view_is) (refuses_by KnowsNoLess c.args.self.now c.args._ended text long))

pub returns-clause-kept : goal.returns-clause-kept
returns-clause-kept c = subst (λ (now : LiveReaderValue). KnowsNoLess c.args.self.now now) (sym c.self.view_is) (knows_itself _)

-- A line that is too long is refused as a session refuses it.
use Rattle.std.proofs.Common.{subst}
use Rattle.pn_lines.specs.Answers.{reply_of}
use Rattle.pn_lines.specs.Handling.{Answers}
use Rattle.pn_live.specs.Readers.{LiveReaderValue}
use Rattle.pn_serve.specs.Lines.{pieces_left}
use Rattle.pn_serve.specs.Proofs.{knows_itself}
use Rattle.pn_serve.specs.Session.Resuming.{KnowsNoLess}
use Rattle.pn_stay.specs.Looks.{session_reads}
use Rattle.pn_stay.proofs.bounded_reader.BoundedReaderRefusesLong.refuse_long.Goals as goal

pub returns-clause-answers : goal.returns-clause-answers
returns-clause-answers c text long =
    subst (λ (r : LiveReaderValue). Answers session_reads r c.args.ended text c.refuse_long.new.self (reply_of pieces_left c.refuse_long.result)) c.self.view_is
    record { between = c.self.inside.reader; moved = knows_itself c.self.inside.reader; answered = c.refuse_long.ensures.answers text long }

pub returns-clause-kept : goal.returns-clause-kept
returns-clause-kept c = subst (λ (r : LiveReaderValue). KnowsNoLess r c.refuse_long.new.self) c.self.view_is c.refuse_long.ensures.kept

-- The mailboxes and threads are those of the streams.
use Rattle.std.proofs.Common.{sym, ◌∙◌}
use Rattle.pn_serve.specs.Server.Publishers.{IsSent}
use Rattle.pn_serve.proofs.RoundsRead.{not_begun, reading_ends}
use Rattle.pn_serve.proofs.server.serve_streams.Goals as goal

pub join_sessions-requires-clause-readers : goal.join_sessions-requires-clause-readers
join_sessions-requires-clause-readers g c = λ k d within. c.start_sessions-running.ensures.readers k d within ∙ sym c.run_unless_refused-read.ensures.same

pub returns-clause-ends : goal.returns-clause-ends
returns-clause-ends g c =
    reading_ends (IsSent g.M.Sending.known g.M.Sending.sends) g.S.Source.left c.args.streams.items _ _ _ c.args.region.now.live c.run_unless_refused-read.new.live _ c.marks.result.now c.run_unless_refused-read.result c.join_after_rounds.result
    c.in_ok-started.ensures.at_fault c.in_ok-started.ensures.names c.in_ok-started.ensures.threads c.run_unless_refused-read.ensures.refused c.run_unless_refused-read.ensures.reads
    c.join_after_rounds.ensures.first c.marks.ensures.marks c.join_after_rounds.ensures.taken c.join_after_rounds.ensures.named

pub returns-in_err-started-clause-ends : goal.returns-in_err-started-clause-ends
returns-in_err-started-clause-ends g c =
    not_begun (IsSent g.M.Sending.known g.M.Sending.sends) g.S.Source.left c.args.streams.items c.args.region.now.live c.in_err-started.field-0.0 c.from_residual.result c.from_residual.ensures.1 c.in_err-started.ensures.fault

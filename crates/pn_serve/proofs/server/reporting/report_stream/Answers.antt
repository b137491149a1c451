-- The last report has no messages.
use Rattle.pn_serve.proofs.PublishersRead.{no_messages_sent}
use Rattle.pn_serve.proofs.server.reporting.report_stream.Goals as goal

pub leave-requires : goal.leave-requires
leave-requires g c = no_messages_sent g.M.Sending.known g.M.Sending.sends c.end_of-ended.result c.last_report.result c.last_report.ensures

-- What the next publisher's source has left is of that publisher.
use Rattle.pn_serve.proofs.PublishersRead.{begun}
use Rattle.pn_serve.proofs.server.reporting.next_input.Goals as goal

pub returns-in-Some-clause-sent : goal.returns-in-Some-clause-sent
returns-in-Some-clause-sent g c = λ known. begun g.S.Source.left g.M.Sending.sends _ _ _ c.begin.result.reader c.begin.ensures.reader c.begin.ensures.source (c.in-Some.ensures.sent known)

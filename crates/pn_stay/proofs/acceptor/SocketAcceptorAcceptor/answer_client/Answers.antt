-- Where no client comes, the reader is as it was.
use Rattle.pn_serve.proofs.Knowing.{knows_itself}
use Rattle.pn_stay.proofs.acceptor.SocketAcceptorAcceptor.answer_client.Goals as goal

pub returns-in_err-socket : goal.returns-in_err-socket
returns-in_err-socket c = knows_itself _

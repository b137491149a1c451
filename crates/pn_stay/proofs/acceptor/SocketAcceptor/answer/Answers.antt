-- Where nothing can be read, the reader is as it was.
use Rattle.pn_serve.proofs.Knowing.{knows_itself}
use Rattle.pn_stay.proofs.acceptor.SocketAcceptor.answer.Goals as goal

pub returns-in_err-input : goal.returns-in_err-input
returns-in_err-input c = knows_itself _

pub returns-in_err-counters : goal.returns-in_err-counters
returns-in_err-counters c = knows_itself _

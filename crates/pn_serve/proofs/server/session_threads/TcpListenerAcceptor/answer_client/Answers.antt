-- Where no client comes, the reader is as it was.
use Rattle.pn_serve.proofs.Knowing.{knows_itself}
use Rattle.pn_serve.proofs.server.session_threads.TcpListenerAcceptor.answer_client.Goals as goal

pub returns-in_err-stream : goal.returns-in_err-stream
returns-in_err-stream c = knows_itself _

pub returns-in_err-set_nodelay : goal.returns-in_err-set_nodelay
returns-in_err-set_nodelay c = knows_itself _

pub returns-in_err-input : goal.returns-in_err-input
returns-in_err-input c = knows_itself _

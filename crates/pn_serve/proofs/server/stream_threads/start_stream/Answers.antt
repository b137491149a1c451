-- Where its thread leaves reports goes to that thread.
use denote.Param.Send.{sendable}
use Rattle.std.proofs.Crossing.{crosses}
use Rattle.std.proofs.lemmas.Result.{IfOk-from_err}
use Rattle.pn_serve.proofs.Crossing.{reporter_send}
use Rattle.pn_serve.proofs.server.stream_threads.start_stream.Goals as goal

pub spawn_reporting-requires-send-P : goal.spawn_reporting-requires-send-P
spawn_reporting-requires-send-P g c κs within = search (sendable, crosses, reporter_send) depth 40 fits 20000

pub returns-in_err-reporter-clause-threads : goal.returns-in_err-reporter-clause-threads
returns-in_err-reporter-clause-threads g c = IfOk-from_err c.from_residual.result (λ _. _) c.from_residual.ensures.0

pub returns-in_err-reporter-clause-names : goal.returns-in_err-reporter-clause-names
returns-in_err-reporter-clause-names g c = IfOk-from_err c.from_residual.result (λ _. _) c.from_residual.ensures.0

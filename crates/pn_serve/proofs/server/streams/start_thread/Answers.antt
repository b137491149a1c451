-- Where its thread leaves reports goes to that thread.
use denote.Param.Send.{sendable}
use Rattle.std.proofs.Crossing.{crosses}
use Rattle.std.proofs.lemmas.Result.{IfOk-from_err}
use Rattle.pn_serve.proofs.Crossing.{reporter_send}
use Rattle.pn_serve.proofs.server.streams.start_thread.Goals as goal

pub spawn-requires-send-F : goal.spawn-requires-send-F
spawn-requires-send-F g c κs within = search (sendable, crosses, reporter_send) depth 40 fits 20000

pub returns-in_err-reporter-clause-names : goal.returns-in_err-reporter-clause-names
returns-in_err-reporter-clause-names g c = IfOk-from_err c.from_residual.result (λ _. _) c.from_residual.ensures.0

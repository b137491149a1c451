-- The readers go to a thread of their own.
use denote.Param.Send.{sendable}
use Rattle.std.proofs.Crossing.{crosses}
use Rattle.pn_bench.proofs.Crossing.{runner_send}
use Rattle.pn_bench.proofs.driver.time_busy.Goals as goal

pub join_mut-took-requires-send-F : goal.join_mut-took-requires-send-F
join_mut-took-requires-send-F g c κs within = search (sendable, crosses, runner_send, c.type_bounds.sync-R) depth 40 fits 20000

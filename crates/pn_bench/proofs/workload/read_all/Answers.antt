-- Each reader goes to a thread of its own.
use denote.Param.Send.{sendable}
use Rattle.std.proofs.Crossing.{crosses}
use Rattle.pn_bench.proofs.Crossing.{runner_send}
use Rattle.pn_bench.proofs.workload.read_all.Goals as goal

pub for_each_mut-requires-send-T : goal.for_each_mut-requires-send-T
for_each_mut-requires-send-T g c κs within = search (sendable, crosses, runner_send) depth 40 fits 20000

-- What progress is told of may go to a thread.
use denote.Param.Send.{sendable}
use Rattle.std.proofs.Crossing.{crosses}
use Rattle.pn_stay.proofs.Crossing.{counters_send, counters_sync}
use Rattle.pnuts.proofs.start_telling.Goals as goal

pub spawn-requires-send-F : goal.spawn-requires-send-F
spawn-requires-send-F g c κs within = search (sendable, crosses, counters_send, counters_sync) depth 40 fits 20000

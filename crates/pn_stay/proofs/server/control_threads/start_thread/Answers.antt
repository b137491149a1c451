-- A control thread begins with its reader.
use denote.Param.Send.{sendable}
use Rattle.std.proofs.Crossing.{crosses}
use Rattle.pn_live.proofs.Crossing.{reader_send}
use Rattle.pn_stay.proofs.Crossing.{control_send}
use Rattle.pn_stay.proofs.server.control_threads.start_thread.Goals as goal

pub spawn-requires-send-F : goal.spawn-requires-send-F
spawn-requires-send-F g c κs within = search (sendable, crosses, control_send, reader_send) depth 40 fits 20000

-- A session goes to its thread.
use denote.Param.Send.{sendable}
use Rattle.std.proofs.Crossing.{crosses}
use Rattle.pn_stay.proofs.Crossing.{loop_send}
use Rattle.pn_stay.proofs.server.threads.start_thread.Goals as goal

pub spawn_thread-requires-send-B : goal.spawn_thread-requires-send-B
spawn_thread-requires-send-B g c κs within = search (sendable, crosses, loop_send) depth 40 fits 20000

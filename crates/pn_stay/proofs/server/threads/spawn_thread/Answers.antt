-- The reader comes back.
use denote.Param.Send.{sendable}
use Rattle.std.proofs.Crossing.{crosses}
use Rattle.pn_live.proofs.Crossing.{reader_send}
use Rattle.pn_stay.proofs.server.threads.spawn_thread.Goals as goal

pub spawn_with-requires-send-T : goal.spawn_with-requires-send-T
spawn_with-requires-send-T g c κs within = search (sendable, crosses, reader_send) depth 40 fits 20000

-- What the thread that accepts begins with may go to it.
use denote.Param.Send.{sendable}
use Rattle.std.proofs.Crossing.{crosses}
use Rattle.pn_stay.proofs.Crossing.{accept_send}
use Rattle.pn_stay.proofs.server.accepting.spawn_threads.Goals as goal

pub spawn-requires-send-F : goal.spawn-requires-send-F
spawn-requires-send-F g c κs within = search (sendable, crosses, accept_send) depth 40 fits 20000

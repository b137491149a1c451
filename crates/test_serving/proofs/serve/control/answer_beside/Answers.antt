-- The session goes to its thread with its reader.
use denote.Param.Send.{sendable}
use Rattle.std.proofs.Crossing.{crosses}
use Rattle.pn_live.proofs.Crossing.{reader_send}
use Rattle.pn_serve.proofs.Crossing.{controls_send, controls_sync}
use Rattle.test_serving.proofs.serve.control.answer_beside.Goals as goal

pub spawn-requires-send-F : goal.spawn-requires-send-F
spawn-requires-send-F g c κs within = search (sendable, crosses, reader_send, controls_send, controls_sync) depth 40 fits 20000

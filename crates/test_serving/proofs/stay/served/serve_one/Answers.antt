-- The acceptor may go to the threads of sessions.
use denote.Param.Send.{sendable}
use Rattle.std.proofs.Crossing.{crosses}
use Rattle.pn_stay.proofs.Crossing.{acceptor_send}
use Rattle.test_serving.proofs.stay.served.serve_one.Goals as goal

pub serve-ended-requires-send-L : goal.serve-ended-requires-send-L
serve-ended-requires-send-L g c κs within = search (sendable, crosses, acceptor_send) depth 40 fits 20000

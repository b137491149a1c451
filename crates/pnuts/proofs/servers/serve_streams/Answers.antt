-- The acceptor may go to the threads of sessions.
use denote.Param.Send.{sendable}
use Rattle.std.proofs.Crossing.{crosses}
use Rattle.pn_stay.proofs.Crossing.{acceptor_send}
use Rattle.pnuts.proofs.servers.serve_streams.Goals as goal

pub serve-served-requires-send-L : goal.serve-served-requires-send-L
serve-served-requires-send-L g c κs within = search (sendable, crosses, acceptor_send) depth 40 fits 20000

pub serve_opened-served-requires-send-L : goal.serve_opened-served-requires-send-L
serve_opened-served-requires-send-L g c κs within = search (sendable, crosses, acceptor_send) depth 40 fits 20000

-- Where the client is gone, its reader is as it was.
use Rattle.pn_serve.proofs.Knowing.{knows_itself}
use Rattle.pn_stay.proofs.event_loop.EventLoop.give_turn.Goals as goal

pub returns-in-None : goal.returns-in-None
returns-in-None g c = record { knows = knows_itself _ }

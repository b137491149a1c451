-- One round after another.
use Rattle.pn_serve.proofs.Knowing.{knows_itself, knows_on}
use Rattle.pn_stay.proofs.event_loop.EventLoop.run.Goals as goal

pub rounds-init : goal.rounds-init
rounds-init g c = knows_itself _

pub rounds-preserved : goal.rounds-preserved
rounds-preserved g c = knows_on _ _ _ c.rounds.invariant c.take_turns.ensures.knows

-- One round after another.
use Rattle.pn_serve.proofs.Knowing.{knows_itself, knows_on}
use Rattle.pn_stay.proofs.event_loop.EventLoop.take_turns.Goals as goal

pub loop-key-init : goal.loop-key-init
loop-key-init g c = knows_itself _

pub loop-key-preserved : goal.loop-key-preserved
loop-key-preserved g c = knows_on _ _ _ c.loop-key.invariant c.give_turn.ensures.knows

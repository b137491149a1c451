-- One round after another.
use Rattle.pn_stay.specs.Loops.{unread_at}
use Rattle.pn_stay.proofs.Keys.{ends_none, ends_on}
use Rattle.pn_stay.proofs.event_loop.EventLoop.end_past.Goals as goal

pub rounds-init : goal.rounds-init
rounds-init g c = ends_none (unread_at c.args.self.now.connections)

pub rounds-preserved : goal.rounds-preserved
rounds-preserved g c = ends_on (unread_at c.args.self.now.connections) (unread_at c.rounds.self.connections)
    (unread_at c.end_next-goes_on.new.self.connections) c.rounds.invariant c.end_next-goes_on.ensures

-- Those were ended so far that took nothing for longest.
use Rattle.pn_stay.specs.Unread.{EndsLongest}
use Rattle.pn_stay.specs.Loops.{unread_at}
use Rattle.pn_stay.proofs.event_loop.EventLoop.end_past.Given as goal

abbrev pub invariant-rounds : goal.invariant-rounds
invariant-rounds g l = EndsLongest (unread_at l.initial.self.connections) (unread_at l.self.connections)

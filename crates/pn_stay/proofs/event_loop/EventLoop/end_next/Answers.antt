-- Those are ended that took nothing for longest, or none.
use Rattle.pn_stay.specs.Loops.{unread_at}
use Rattle.pn_stay.proofs.Keys.{ends_longest}
use Rattle.pn_stay.proofs.event_loop.EventLoop.end_next.Goals as goal

pub returns : goal.returns
returns g c = ends_longest c.longest_quiet-longest.result (unread_at c.args.self.now.connections) (unread_at c.end_longest.new.self.connections)
    c.longest_quiet-longest.ensures.most c.end_longest.ensures

-- One key after another.
use Rattle.std.proofs.Common.{inl, ⊎_elim, arith}
use Rattle.std.proofs.lemmas.Bool.{cases_lt}
use Rattle.pn_stay.specs.Unread.{EndsAt}
use Rattle.pn_stay.specs.Loops.{unread_at}
use Rattle.pn_stay.proofs.Keys.{done_more, rest_less}
use Rattle.pn_stay.proofs.event_loop.EventLoop.end_longest.Goals as goal

pub clients-preserved : goal.clients-preserved
clients-preserved g c =
    let was = c.clients in
    let first = unread_at c.args.self.now.connections in
    let before = unread_at was.self.connections in
    let after = unread_at c.end_longest_at.new.self.connections in
    record {
      done = done_more (EndsAt c.args.longest) was.key first before after c.end_longest_at.ensures.others was.invariant.done
          (was.invariant.rest was.key (omega arith)) c.end_longest_at.ensures.here;
      rest = rest_less (EndsAt c.args.longest) was.key first before after c.end_longest_at.ensures.others was.invariant.rest;
    }

pub returns : goal.returns
returns g c key = ⊎_elim (λ below. c.clients.invariant.done key below) (λ past. inl (c.clients.invariant.rest key past)) (cases_lt key c.clients.key)

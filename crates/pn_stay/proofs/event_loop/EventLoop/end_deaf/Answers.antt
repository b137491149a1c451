-- One key after another.
use Rattle.std.proofs.Common.{◌≤◌, length, ⊎_elim, arith}
use Rattle.std.proofs.lemmas.Bool.{cases_lt}
use Rattle.pn_stay.specs.Unread.{EndsDeaf}
use Rattle.pn_stay.specs.Loops.{unread_at}
use Rattle.pn_stay.proofs.Keys.{done_more, rest_less, deaf_none, unread_past}
use Rattle.pn_stay.proofs.event_loop.EventLoop.end_deaf.Goals as goal

pub clients-preserved : goal.clients-preserved
clients-preserved g c =
    let was = c.clients in
    let first = unread_at c.args.self.now.connections in
    let before = unread_at was.self.connections in
    let after = unread_at c.end_deaf_at.new.self.connections in
    record {
      done = done_more EndsDeaf was.key first before after c.end_deaf_at.ensures.others was.invariant.done (was.invariant.rest was.key (omega arith))
          c.end_deaf_at.ensures.here;
      rest = rest_less EndsDeaf was.key first before after c.end_deaf_at.ensures.others was.invariant.rest;
    }

pub returns : goal.returns
returns g c key =
    let at = c.clients in
    let first = c.args.self.now.connections in
    ⊎_elim
    (λ below. at.invariant.done key below)
    (λ past.
    let none : length first.slots ≤ key = omega (arith, past, c.capacity-key-end.ensures.slots, c.capacity-key-end.ensures.value, c.clients-test.false) in
    deaf_none (unread_at first key) (unread_at at.self.connections key) (unread_past first key none) (at.invariant.rest key past))
    (cases_lt key at.key)

-- One key after another.
use Rattle.std.proofs.Common.{◌≤◌, length, ⊎_elim, arith}
use Rattle.std.proofs.lemmas.Bool.{cases_lt}
use Rattle.pn_stay.specs.Loops.{idle_at}
use Rattle.pn_stay.proofs.Keys.{idle_past, none_in_quarter as ends_none, ended_more, quarters_left as rest_less}
use Rattle.pn_stay.proofs.event_loop.EventLoop.end_quarter.Goals as goal

pub quarters-preserved : goal.quarters-preserved
quarters-preserved g c =
    let was = c.quarters in
    let first = idle_at c.args.self.now.connections in
    let before = idle_at was.self.connections in
    let after = idle_at c.end_quarter_at.new.self.connections in
    record {
      done = ended_more c.args.idle was.key first before after c.end_quarter_at.ensures.others was.invariant.done (was.invariant.rest was.key (omega arith))
          c.end_quarter_at.ensures.here;
      rest = rest_less c.args.idle was.key first before after c.end_quarter_at.ensures.others was.invariant.rest;
    }

pub returns : goal.returns
returns g c key =
    let at = c.quarters in
    let first = c.args.self.now.connections in
    ⊎_elim
    (λ below. at.invariant.done key below)
    (λ past.
    let none : length first.slots ≤ key = omega (arith, past, c.capacity-key-end.ensures.slots, c.capacity-key-end.ensures.value, c.quarters-test.false) in
    ends_none c.args.idle (idle_at first key) (idle_at at.self.connections key) (idle_past first key none) (at.invariant.rest key past))
    (cases_lt key at.key)

-- One key after another.
use Rattle.std.proofs.Common.{◌≤◌, length, ⊎_elim, arith}
use Rattle.std.proofs.lemmas.Bool.{cases_lt}
use Rattle.pn_stay.specs.Loops.{ending_at}
use Rattle.pn_stay.proofs.Keys.{ending_past, ends_more, none_ending as ends_none, inputs_left as rest_less}
use Rattle.pn_stay.proofs.event_loop.EventLoop.end_all_inputs.Goals as goal

pub inputs-preserved : goal.inputs-preserved
inputs-preserved c =
    let was = c.inputs in
    let first = ending_at c.args.self.now.connections in
    let before = ending_at was.self.connections in
    let after = ending_at c.end_input_at.new.self.connections in
    record {
      done = ends_more was.key before after c.end_input_at.ensures.others was.invariant.done c.end_input_at.ensures.here;
      rest = rest_less was.key before after c.end_input_at.ensures.others first was.invariant.rest;
    }

pub returns : goal.returns
returns c key =
    let at = c.inputs in
    let first = c.args.self.now.connections in
    ⊎_elim
    (λ below. at.invariant.done key below)
    (λ past.
    let none : length first.slots ≤ key = omega (arith, past, c.capacity-key-end.ensures.slots, c.capacity-key-end.ensures.value, c.inputs-test.false) in
    ends_none (ending_at first key) (ending_at at.self.connections key) (ending_past first key none) (at.invariant.rest key past))
    (cases_lt key at.key)

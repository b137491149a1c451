-- The inputs of the clients of the keys below end, and those of the others are as they were.
use Rattle.std.proofs.Common.{◌≡◌, ℕ, ◌<◌, ◌≤◌}
use Rattle.pn_stay.specs.Loops.{ending_at, IsEnding}
use Rattle.pn_stay.proofs.event_loop.EventLoop.end_all_inputs.Given as goal

abbrev pub invariant-inputs : goal.invariant-inputs
invariant-inputs l = record {
  done : (key : ℕ) → key < l.key → IsEnding (ending_at l.self.connections key);
  rest : (key : ℕ) → l.key ≤ key → ending_at l.self.connections key ≡ ending_at l.initial.self.connections key;
}

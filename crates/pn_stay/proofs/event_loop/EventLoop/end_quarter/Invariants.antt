-- The quarter has ended for the keys below, and not yet for the others.
use Rattle.std.proofs.Common.{◌≡◌, ℕ, ◌<◌, ◌≤◌}
use Rattle.pn_stay.specs.Loops.{idle_at, EndsQuarter}
use Rattle.pn_stay.proofs.event_loop.EventLoop.end_quarter.Given as goal

abbrev pub invariant-quarters : goal.invariant-quarters
invariant-quarters g l = record {
  done : (key : ℕ) → key < l.key → EndsQuarter l.initial.idle (idle_at l.initial.self.connections key) (idle_at l.self.connections key);
  rest : (key : ℕ) → l.key ≤ key → idle_at l.self.connections key ≡ idle_at l.initial.self.connections key;
}

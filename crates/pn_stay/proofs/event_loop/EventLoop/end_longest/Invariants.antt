-- Clients below were ended or not, and the others are as they were.
use Rattle.std.proofs.Common.{◌≡◌, ℕ, ◌<◌, ◌≤◌}
use Rattle.pn_stay.specs.Unread.{EndsAt}
use Rattle.pn_stay.specs.Loops.{unread_at}
use Rattle.pn_stay.proofs.event_loop.EventLoop.end_longest.Given as goal

abbrev pub invariant-clients : goal.invariant-clients
invariant-clients g l = record {
  done : (key : ℕ) → key < l.key → EndsAt l.initial.longest (unread_at l.initial.self.connections key) (unread_at l.self.connections key);
  rest : (key : ℕ) → l.key ≤ key → unread_at l.self.connections key ≡ unread_at l.initial.self.connections key;
}

-- The longest of the keys below.
use Rattle.std.proofs.Common.{◌≡◌, ◌⊎◌, ℕ, ◌<◌, ◌≤◌}
use Rattle.pn_stay.specs.Loops.{quiet_at}
use Rattle.pn_stay.proofs.event_loop.unread.longest_quiet.Given as goal

abbrev pub invariant-clients : goal.invariant-clients
invariant-clients l = record {
  most : (key : ℕ) → key < l.key → quiet_at l.connections key ≤ l.longest;
  some : (l.longest ≡ 0) ⊎ ((key : ℕ) × (quiet_at l.connections key ≡ l.longest));
}

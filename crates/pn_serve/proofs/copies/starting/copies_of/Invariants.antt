-- The tablets so far gave these copies.
use Rattle.std.proofs.Common.{◌≡◌, ◌+◌, length, map, take, vec_capacity, Ok}
use Rattle.pn_serve.specs.Copies.{copies_from}
use Rattle.pn_serve.proofs.copies.starting.copies_of.Given as goal

abbrev pub invariant-loop-tablet : goal.invariant-loop-tablet
invariant-loop-tablet l = record {
  given : copies_from (take l.tablet l.region.state.tablets) ≡ map Ok l.copies.items;
  count : length l.copies.items ≡ l.tablet;
  capacity : vec_capacity l.copies ≡ length l.region.state.layout + 1;
}

-- The tablets so far are empty.
use Rattle.std.proofs.Common.{◌≡◌, ◌+◌, map, length, vec_capacity}
use Rattle.pn_region.proofs.Common.{range_with_len, tablet_ends, empty_tablet}
use Rattle.pn_region.proofs.region.empty_tablets.Given as goal

abbrev pub invariant-loop-tablet : goal.invariant-loop-tablet
invariant-loop-tablet l = record {
  empty : l.tablets.items ≡ map empty_tablet (map (tablet_ends l.layout) (range_with_len 0 l.tablet));
  count : length l.tablets.items ≡ l.tablet;
  capacity : vec_capacity l.tablets ≡ length l.layout + 1;
}

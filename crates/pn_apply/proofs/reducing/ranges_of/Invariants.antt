-- The tablets so far have ranges.
use Rattle.std.proofs.Common.{◌≡◌, ◌+◌, map, length, vec_capacity}
use Rattle.std.specs.List.{range_with_len}
use Rattle.pn_tablet.specs.Layouts.{tablet_ends}
use Rattle.pn_apply.proofs.reducing.ranges_of.Given as goal

abbrev pub invariant-loop-tablet : goal.invariant-loop-tablet
invariant-loop-tablet l = record {
  found : l.found.items ≡ map (tablet_ends l.layout) (range_with_len 0 l.tablet);
  count : length l.found.items ≡ l.tablet;
  capacity : vec_capacity l.found ≡ length l.layout + 1;
}

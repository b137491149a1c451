-- The tablets so far are new.
use Rattle.std.proofs.Common.{◌≡◌, ◌+◌, map, length, vec_capacity}
use Rattle.std.specs.List.{range_with_len}
use Rattle.pn_tablet.specs.Layouts.{tablet_ends}
use Rattle.pn_live.specs.PublishedTablets.{AreNewTablets}
use Rattle.pn_live.proofs.region.opening.open_tablets.Given as goal

abbrev pub invariant-loop-number : goal.invariant-loop-number
invariant-loop-number g l = record {
  new : AreNewTablets (map (tablet_ends l.layout) (range_with_len 0 l.number)) l.tablets.items;
  count : length l.tablets.items ≡ l.number;
  capacity : vec_capacity l.tablets ≡ length l.layout + 1;
}

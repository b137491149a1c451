-- The tablets so far are made of the old ones.
use Rattle.std.proofs.Common.{◌≡◌, ◌+◌, map, length, vec_capacity}
use Rattle.pn_region.specs.Recovery.{made_of}
use Rattle.pn_region.proofs.Common.{range_with_len, tablet_ends}
use Rattle.pn_region.proofs.region.relayout.build_tablets.Given as goal

abbrev pub invariant-loop-tablet : goal.invariant-loop-tablet
invariant-loop-tablet l = record {
  made : l.made.items ≡ map (made_of l.tablets) (map (tablet_ends l.layout) (range_with_len 0 l.tablet));
  count : length l.made.items ≡ l.tablet;
  capacity : vec_capacity l.made ≡ length l.layout + 1;
}

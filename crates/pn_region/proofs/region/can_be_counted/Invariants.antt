-- The records of the joins so far are counted.
use Rattle.std.proofs.Common.{◌≡◌, ◌<◌, ◌^◌, length, take}
use Rattle.pn_region.proofs.Common.{flat_map, joined_cells}
use Rattle.pn_region.proofs.region.can_be_counted.Given as goal

abbrev pub invariant-loop-join : goal.invariant-loop-join
invariant-loop-join l = record {
  counted : l.count ≡ length (flat_map joined_cells (take l.join-index l.joins));
  fits : l.count < 2 ^ 64;
}

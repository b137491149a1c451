-- The changes so far have their numbers, and there is capacity for those that are left.
use Rattle.std.proofs.Common.{◌≡◌, ◌+◌, ◌++◌, length, drop, vec_capacity}
use Rattle.pn_region.specs.Log.{notices_from}
use Rattle.pn_region.proofs.notices.copy_notices.Given as goal

abbrev pub invariant-loop-index : goal.invariant-loop-index
invariant-loop-index l = record {
  told : l.list.items ++ notices_from l.number (drop l.index l.kept.items) ≡ notices_from l.before (drop l.first l.kept.items);
  number : l.number + l.first ≡ l.before + l.index;
  capacity : l.first + vec_capacity l.list ≡ length l.kept.items;
  count : l.first + length l.list.items ≡ l.index;
}

-- The entries so far and those that are left are all.
use Rattle.std.proofs.Common.{◌≡◌, ◌+◌, ◌-◌, ◌<◌, ◌++◌, length, reverse}
use Rattle.pn_join.specs.NodeLeaves.{entries_in}
use Rattle.pn_join.specs.declared.table.row.TheConstants.{MAX_CHILDREN}
use Rattle.pn_join.proofs.table.row.Row.of_next_entries.Given as goal

abbrev pub invariant-loop-left : goal.invariant-loop-left
invariant-loop-left g l = record {
  parted : entries_in l.row ++ reverse l.left.items ≡ reverse l.initial.left.items;
  some : 0 < length l.initial.left.items → 0 < length l.row + length l.left.items;
}

abbrev pub decreases-loop-left : goal.decreases-loop-left
decreases-loop-left g l = MAX_CHILDREN - length l.row

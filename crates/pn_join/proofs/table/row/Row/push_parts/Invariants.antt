-- What is there and the rest of the slice make the whole.
use Rattle.std.proofs.Common.{◌≡◌, ◌-◌, ◌≤◌, ◌++◌, slice_range}
use Rattle.pn_join.specs.NodeLeaves.{entries_in}
use Rattle.pn_join.proofs.table.row.Row.push_parts.Given as goal

abbrev pub invariant-loop-taken : goal.invariant-loop-taken
invariant-loop-taken g l = record {
  order : l.taken ≤ l.to;
  parted : entries_in l.self ++ slice_range (entries_in l.other) l.taken l.to ≡ entries_in l.initial.self ++ slice_range (entries_in l.other) l.from l.to;
}

abbrev pub decreases-loop-taken : goal.decreases-loop-taken
decreases-loop-taken g l = l.to - l.taken

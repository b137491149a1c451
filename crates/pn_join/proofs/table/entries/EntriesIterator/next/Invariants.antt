-- Going on to the next leaf leaves the remaining entries the same.
use Rattle.std.proofs.Common.{◌≡◌, ◌++◌, ◌-◌, length, drop}
use Rattle.std.specs.Slice.Iter.{iter_rest}
use Rattle.pn_join.specs.NodeLeaves.{entries_in}
use Rattle.pn_join.proofs.table.entries.EntriesIterator.next.Given as goal

abbrev pub invariant-loop-key : goal.invariant-loop-key
invariant-loop-key g l = iter_rest l.self-inside.left ++ drop l.self-inside.next (entries_in l.self-inside.root.now) ≡ l.fn.self

abbrev pub decreases-loop-key : goal.decreases-loop-key
decreases-loop-key g l = length (drop l.self-inside.next (entries_in l.self-inside.root.now))

-- The ends moved so far, and those that are left.
use Rattle.std.proofs.Common.{◌≡◌, ◌-◌, vec_len, vec_capacity}
use Rattle.pn_join.specs.Counts.{entry_ends, leaf_ends, moved_from, CanMove}
use Rattle.pn_join.proofs.table.counts.move_ends.Given as goal

abbrev pub invariant-loop-index : goal.invariant-loop-index
invariant-loop-index l = record {
  entries : moved_from l.index l.was.entries l.is.entries (entry_ends l.ends.items) ≡ moved_from l.from l.was.entries l.is.entries (entry_ends l.initial.ends.items);
  leaves : moved_from l.index l.was.leaves l.is.leaves (leaf_ends l.ends.items) ≡ moved_from l.from l.was.leaves l.is.leaves (leaf_ends l.initial.ends.items);
  may_entries : CanMove l.index l.was.entries l.is.entries (entry_ends l.ends.items);
  may_leaves : CanMove l.index l.was.leaves l.is.leaves (leaf_ends l.ends.items);
  len : vec_len l.ends ≡ vec_len l.initial.ends;
  capacity : vec_capacity l.ends ≡ vec_capacity l.initial.ends;
}

abbrev pub decreases-loop-index : goal.decreases-loop-index
decreases-loop-index l = vec_len l.ends - l.index

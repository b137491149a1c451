-- The changes so far and those that are left are all changes.
use Rattle.std.proofs.Common.{◌≡◌, ◌+◌, ◌≤◌, ◌++◌, length, map, vec_len, vec_capacity}
use Rattle.std.specs.Vec.Iter.{into_iter_items, into_iter_len}
use Rattle.pn_tablet.specs.Steps.{reported_change}
use Rattle.pn_tablet.proofs.change.add_changes.Given as goal

abbrev pub invariant-loop-change : goal.invariant-loop-change
invariant-loop-change l = record {
  whole : l.changes.items ++ map reported_change (into_iter_items l.change-iterator) ≡ map reported_change (into_iter_items l.initial.change-iterator);
  capacity : vec_len l.changes + into_iter_len l.change-iterator ≤ vec_capacity l.changes;
  len : into_iter_len l.change-iterator ≡ length (into_iter_items l.change-iterator);
}

-- The contents put so far, and those that are left.
use Rattle.std.proofs.Common.{◌≡◌, ◌+◌, ◌*◌, ◌<◌, ◌≤◌, [], length, vec_len, vec_capacity}
use Rattle.std.specs.Vec.Iter.{into_iter_items, into_iter_len}
use Rattle.pn_join.specs.Edits.{put_in_turn, AreFor}
use Rattle.pn_join.specs.declared.table.leaf_join.TheConstants.{MAX_LEAF_ENTRIES}
use Rattle.pn_join.proofs.table.open_leaf.OpenLeaf.finish.Given as goal

abbrev pub invariant-loop-edit : goal.invariant-loop-edit
invariant-loop-edit g l = record {
  put : put_in_turn l.start l.entries.items (into_iter_items l.edit-iterator) ≡ l.fn.self.1;
  edits : AreFor l.start (length l.entries.items) (into_iter_items l.edit-iterator);
  some : 0 < length l.entries.items;
  capacity : length l.entries.items + length (into_iter_items l.edit-iterator) ≤ vec_capacity l.entries;
  few : length l.entries.items + length (into_iter_items l.edit-iterator) ≤ 2 * MAX_LEAF_ENTRIES;
  room : MAX_LEAF_ENTRIES < length l.entries.items + length (into_iter_items l.edit-iterator) → length l.entries.items + length (into_iter_items l.edit-iterator) ≤ 2 * vec_capacity l.back;
  none : l.back.items ≡ [];
  len : into_iter_len l.edit-iterator ≡ length (into_iter_items l.edit-iterator);
}

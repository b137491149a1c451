-- The cells so far and those that are left join to those of all entries.
use Rattle.std.proofs.Common.{◌≡◌, ℕ, List, length}
use Rattle.std.specs.FinMap.{find}
use Rattle.std.specs.Vec.Iter.{into_iter_items, into_iter_len}
use Rattle.pn_join.specs.Tables.{IsTable}
use Rattle.pn_record.specs.Sets.{bytes_cmp, HasContents}
use Rattle.pn_record.proofs.CellLists.{both}
use Rattle.pn_apply.specs.Reducing.{joined_at}
use Rattle.pn_apply.proofs.Entries.{Follow}
use Rattle.pn_apply.proofs.share.join_neighbours.Given as goal

abbrev pub invariant-loop-key : goal.invariant-loop-key
invariant-loop-key l = record {
  cells : (key : List ℕ) → both (find bytes_cmp key l.joined.items) (joined_at (into_iter_items l.key-iterator) key) ≡ joined_at l.fn.sorted.items key;
  table : IsTable bytes_cmp HasContents l.joined.items;
  follow : Follow l.joined.items (into_iter_items l.key-iterator);
  left : into_iter_len l.key-iterator ≡ length (into_iter_items l.key-iterator);
}

use Rattle.std.proofs.Common.{◌≡◌, ◌≤◌, length, take, vec_len, vec_capacity}
use Rattle.pn_join.proofs.table.leaf.copy_entries.Given as goal

abbrev pub invariant-loop-key : goal.invariant-loop-key
invariant-loop-key g l = record {
  copied : l.copy.items ≡ take l.key-index l.entries;
  len : vec_len l.copy ≡ l.key-index;
  capacity : length l.entries ≤ vec_capacity l.copy;
}

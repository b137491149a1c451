use Rattle.std.proofs.Common.{◌≡◌, ◌≤◌, length, take, vec_len, vec_capacity}
use Rattle.pn_join.proofs.table.counts.copy_ends.Given as goal

abbrev pub invariant-loop-end : goal.invariant-loop-end
invariant-loop-end l = record {
  copied : l.copy.items ≡ take l.end-index l.ends;
  len : vec_len l.copy ≡ l.end-index;
  capacity : length l.ends ≤ vec_capacity l.copy;
}

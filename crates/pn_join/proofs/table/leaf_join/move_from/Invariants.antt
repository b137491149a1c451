use Rattle.std.proofs.Common.{◌≡◌, ◌+◌, ◌-◌, ◌≤◌, List, ◌++◌, reverse, vec_len, vec_capacity}
use Rattle.pn_join.proofs.table.leaf_join.move_from.Given as goal

abbrev pub invariant-loop-others : goal.invariant-loop-others
invariant-loop-others g l = record {
  parted : (moved : List _) × (l.initial.items.items ≡ l.items.items ++ moved) × (l.others.items ≡ l.initial.others.items ++ reverse moved);
  within : l.index ≤ vec_len l.items;
  fits : vec_len l.others + (vec_len l.items - l.index) ≤ vec_capacity l.others;
  lens : vec_len l.others + vec_len l.items ≡ vec_len l.initial.others + vec_len l.initial.items;
  capacity : vec_capacity l.items ≡ vec_capacity l.initial.items;
  others_capacity : vec_capacity l.others ≡ vec_capacity l.initial.others;
}

abbrev pub decreases-loop-others : goal.decreases-loop-others
decreases-loop-others g l = vec_len l.items

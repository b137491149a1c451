-- The node lies from `low` up to `high`.
use Rattle.std.proofs.Common.{◌≡◌, ◌+◌, ◌-◌, ◌<◌, ◌≤◌, true, false, [], length, get_or}
use Rattle.pn_join.specs.NodeLeaves.{in_nodes}
use Rattle.pn_join.specs.Leaves.{ends_below}
use Rattle.pn_join.proofs.table.row.Row.search_node.Given as goal

abbrev pub invariant-loop-low : goal.invariant-loop-low
invariant-loop-low g l = record {
  order : l.low ≤ l.high;
  within : l.high ≤ length l.self - 1;
  before : 0 < l.low → ends_below g.K.Ord.cmp l.key (get_or (in_nodes l.self) (l.low - 1) []) ≡ true;
  here : l.high + 1 < length l.self → ends_below g.K.Ord.cmp l.key (get_or (in_nodes l.self) l.high []) ≡ false;
}

abbrev pub decreases-loop-low : goal.decreases-loop-low
decreases-loop-low g l = l.high - l.low

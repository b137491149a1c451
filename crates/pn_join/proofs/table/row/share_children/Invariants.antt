use Rattle.std.proofs.Common.{◌≡◌, ◌≤◌, length, take, vec_len, vec_capacity}
use Rattle.pn_join.specs.Nodes.{each_child}
use Rattle.pn_join.proofs.table.row.share_children.Given as goal

abbrev pub invariant-loop-child : goal.invariant-loop-child
invariant-loop-child g l = record {
  copied : each_child g.T.Node.leaves l.copy.items ≡ each_child g.T.Node.leaves (take l.child-index l.children);
  len : vec_len l.copy ≡ l.child-index;
  capacity : length l.children ≤ vec_capacity l.copy;
}

-- The nodes counted so far.
use Rattle.std.proofs.Common.{◌≡◌, ◌≤◌, length, take, vec_len, vec_capacity}
use Rattle.pn_join.specs.Nodes.{each_child}
use Rattle.pn_join.proofs.CountsFacts.{Counted}
use Rattle.pn_join.proofs.table.row.growth.ends_of.Given as goal

abbrev pub invariant-loop-child : goal.invariant-loop-child
invariant-loop-child g l = record {
  counted : Counted (each_child g.T.Node.leaves l.children) l.child-index l.entries l.leaves l.ends.items;
  len : vec_len l.ends ≡ l.child-index;
  capacity : length l.children ≤ vec_capacity l.ends;
}

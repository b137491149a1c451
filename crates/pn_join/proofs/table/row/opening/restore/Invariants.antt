-- The nodes put back so far, and those that are left.
use Rattle.std.proofs.Common.{◌≡◌, length, vec_len}
use Rattle.pn_join.specs.Nodes.{each_child}
use Rattle.pn_join.specs.Rows.{filled, GoDown}
use Rattle.pn_join.proofs.table.row.opening.restore.Given as goal

abbrev pub invariant-loop-one : goal.invariant-loop-one
invariant-loop-one g l = record {
  back : filled g.T.Node.was l.taken.items (each_child g.T.Node.leaves l.children.items) ≡ filled g.T.Node.was l.initial.taken.items (each_child g.T.Node.leaves l.initial.children.items);
  down : GoDown (length l.children.items) l.taken.items;
  len : vec_len l.children ≡ vec_len l.initial.children;
}

abbrev pub decreases-loop-one : goal.decreases-loop-one
decreases-loop-one g l = vec_len l.taken

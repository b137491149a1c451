-- The nodes put back so far, and those that are left.
use Rattle.std.proofs.Common.{◌≡◌, ◌+◌, ◌<◌, ◌≤◌, length, vec_len, vec_capacity}
use Rattle.std.specs.Vec.Iter.{into_iter_items, into_iter_len}
use Rattle.pn_join.specs.Nodes.{each_child}
use Rattle.pn_join.proofs.Finished.{Finishing}
use Rattle.pn_join.proofs.table.row.opening.OpenRow.finish_row.Given as goal

abbrev pub invariant-loop-one : goal.invariant-loop-one
invariant-loop-one g l = record {
  finishing : Finishing g.T.Node.was g.T.Node.becomes l.fn.self.1 (into_iter_items l.one-iterator) (each_child g.T.Node.leaves l.children.items) l.ends.items;
  len : into_iter_len l.one-iterator ≡ length (into_iter_items l.one-iterator);
  capacity : vec_len l.children + length (into_iter_items l.one-iterator) ≤ vec_capacity l.children;
  some : 0 < vec_len l.children;
  more : vec_len l.ends + length (into_iter_items l.one-iterator) ≤ vec_capacity l.ends;
}

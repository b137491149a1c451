-- The nodes opened so far, the last first.
use Rattle.std.proofs.Common.{◌≡◌, ◌+◌, ◌≤◌, length, vec_len, vec_capacity}
use Rattle.pn_join.specs.Nodes.{each_child}
use Rattle.pn_join.proofs.Opened.{OpenedSoFar}
use Rattle.pn_join.proofs.table.row.opening.open_children.Given as goal

abbrev pub invariant-loop-index : goal.invariant-loop-index
invariant-loop-index g l = record {
  so_far : OpenedSoFar g.T.Node.was g.T.Node.becomes l.start (each_child g.T.Node.leaves l.initial.children.items) l.initial.edits.items (each_child g.T.Node.leaves l.children.items) l.taken.items l.edits.items;
  ends : l.ends.items ≡ l.initial.ends.items;
  capacity : vec_len l.children + vec_len l.taken ≤ vec_capacity l.children;
  more : vec_len l.ends + vec_len l.taken ≤ vec_capacity l.ends;
}

abbrev pub decreases-loop-index : goal.decreases-loop-index
decreases-loop-index g l = length l.edits.items

-- The next part and what is there are a table, since the whole is.
use Rattle.std.proofs.Common.{◌+◌, ◌<◌, length, slice_range, ap, arith}
use Rattle.pn_join.specs.NodeLeaves.{entries_in}
use Rattle.pn_join.specs.Leaves.{all_entries}
use Rattle.pn_join.specs.Nodes.{node_of}
use Rattle.pn_join.proofs.Building.{have_entries}
use Rattle.pn_join.proofs.SliceFacts.{next_table}
use Rattle.pn_join.proofs.table.row.Row.push_parts.Goals as goal

pub push-requires-clause-table : goal.push-requires-clause-table
push-requires-clause-table g c =
    let all = entries_in c.args.other.now in
    let now = c.loop-taken in
    let part = all_entries (g.T.Node.leaves (node_of c.in_ok-node.node)) in
    next_table g.K.Ord.cmp g.C.Join.valid (entries_in now.self) (slice_range all now.taken c.args.to) part (slice_range all (now.taken + length part) c.args.to) c.in_ok-node.ensures.first (rw now.invariant.parted c.requires.table)

pub loop-taken-smaller : goal.loop-taken-smaller
loop-taken-smaller g c =
    let part = g.T.Node.leaves (node_of c.in_ok-node.node) in
    let some : 0 < length (all_entries part) = have_entries g.K.Ord.cmp g.C.Join.valid part c.in_ok-node.ensures.leaf_list c.in_ok-node.ensures.some in
    omega (arith, some, c.sizes-taken.ensures.entries, ap (λ n. length (all_entries (g.T.Node.leaves n))) c.node.ensures, c.in_ok-node.ensures.within)

-- The first part and the others make the slice.
use Rattle.std.proofs.Common.{◌≡◌, ◌+◌, ◌++◌, length, slice_range, ap, ◌∙◌}
use Rattle.pn_join.specs.NodeLeaves.{entries_in}
use Rattle.pn_join.specs.Leaves.{all_entries}
use Rattle.pn_join.specs.Nodes.{node_of}
use Rattle.pn_join.proofs.SliceFacts.{next_table, one_part}
use Rattle.pn_join.proofs.table.row.Row.push_slice.Goals as goal

pub push_or_append-requires-clause-table : goal.push_or_append-requires-clause-table
push_or_append-requires-clause-table g c =
    let all = entries_in c.args.other.now in
    let part = all_entries (g.T.Node.leaves (node_of c.in_ok-first.first)) in
    next_table g.K.Ord.cmp g.C.Join.valid (entries_in c.args.self.now) (slice_range all c.args.from c.args.to) part (slice_range all (c.args.from + length part) c.args.to) c.in_ok-first.ensures.first c.requires.table

pub push_parts-requires-clause-table : goal.push_parts-requires-clause-table
push_parts-requires-clause-table g c =
    let leaves = g.T.Node.leaves in
    let all = entries_in c.args.other.now in
    let own = entries_in c.args.self.now in
    let part = all_entries (leaves (node_of c.in_ok-first.first)) in
    let whole : entries_in c.push_or_append.new.self ++ slice_range all (c.args.from + length part) c.args.to ≡ own ++ slice_range all c.args.from c.args.to =
    ap (λ es. es ++ slice_range all (c.args.from + length part) c.args.to) c.in_ok-push_or_append.ensures
    ∙ one_part g.K.Ord.cmp g.C.Join.valid own (slice_range all c.args.from c.args.to) part (slice_range all (c.args.from + length part) c.args.to) c.in_ok-first.ensures.first in
    rw (c.sizes.ensures.entries, ap (λ n. all_entries (leaves n)) c.node.ensures, whole) c.requires.table

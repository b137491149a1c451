-- The slice is added to a row without nodes.
use Rattle.std.proofs.Common.{◌++◌, slice_range, ap, ◌∙◌}
use Rattle.pn_join.specs.NodeLeaves.{entries_in}
use Rattle.pn_join.proofs.NodeGrowth.{slice_table}
use Rattle.pn_join.proofs.table.row.as_node.RowNode.slice.Goals as goal

pub push_slice-requires-clause-table : goal.push_slice-requires-clause-table
push_slice-requires-clause-table g c =
    rw c.new-part.ensures (slice_table g.K.Ord.cmp g.C.Join.valid (entries_in c.args.self.now) c.args.from c.args.to c.requires.leaf_list.table)

pub returns-clause-part : goal.returns-clause-part
returns-clause-part g c =
    c.in_ok-push_slice.ensures ∙ ap (λ nodes. entries_in nodes ++ slice_range (entries_in c.args.self.now) c.args.from c.args.to) c.new-part.ensures

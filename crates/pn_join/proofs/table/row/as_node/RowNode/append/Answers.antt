-- All entries of the other are added.
use Rattle.std.proofs.Common.{◌≡◌, ◌++◌, slice_range, ap, ◌∙◌}
use Rattle.pn_join.specs.NodeLeaves.{entries_in}
use Rattle.pn_join.proofs.NodeGrowth.{whole_slice}
use Rattle.pn_join.proofs.table.row.as_node.RowNode.append.Goals as goal

pub push_slice-requires-clause-table : goal.push_slice-requires-clause-table
push_slice-requires-clause-table g c =
    rw (whole_slice (entries_in c.args.other) c.all_sizes-len.result.entries c.all_sizes-len.ensures.entries) c.requires.table

pub returns-clause-both : goal.returns-clause-both
returns-clause-both g c =
    c.in_ok-push_slice.ensures ∙ ap (λ es. entries_in c.args.self.now ++ es) (whole_slice (entries_in c.args.other) c.all_sizes-len.result.entries c.all_sizes-len.ensures.entries)

-- The leaves of both rows are those of the row with all contents.
use Rattle.std.proofs.Common.{sym, ap, ◌∙◌}
use Rattle.pn_join.specs.Leaves.{all_entries}
use Rattle.pn_join.proofs.RowEnds.{split_leaves, split_parts}
use Rattle.pn_join.proofs.table.row.as_node.RowNode.finish.Goals as goal

pub returns-clause-put : goal.returns-clause-put
returns-clause-put g c =
    let row = c.split_if_long-back.new.self in
    ap all_entries (split_leaves row c.split_if_long-back.result ∙ ap all_entries (sym c.split_if_long-back.ensures.whole)) ∙ c.finish_row-row.ensures.put

pub returns-clause-parts : goal.returns-clause-parts
returns-clause-parts g c =
    split_parts c.finish_row-row.result c.split_if_long-back.new.self c.split_if_long-back.result c.split_if_long-back.ensures.whole c.recall_row.ensures.some c.recall_row.ensures.leaf_list.sizes (c.split_if_long-back.ensures.some c.finish_row-row.ensures.some) c.split_if_long-back.ensures.back

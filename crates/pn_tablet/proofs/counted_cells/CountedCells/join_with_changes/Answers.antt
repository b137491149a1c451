-- The count follows the changes.
use Rattle.std.proofs.Common.{◌≡◌, ap, ◌∙◌, arith}
use Rattle.pn_tablet.specs.Tablets.{deleted_in}
use Rattle.pn_tablet.proofs.Counting.{joined_count, few_deleted, come, gone}
use Rattle.pn_tablet.proofs.counted_cells.CountedCells.join_with_changes.Goals as goal

pub count_after-self-inside-requires : goal.count_after-self-inside-requires
count_after-self-inside-requires c =
    let joins = c.in_ok-table_changes.ensures in
    let old = c.self.inside.cells in
    let new = c.join_with_changes.new.records in
    let table_changes = c.in_ok-table_changes.table_changes.items in
    let counted = joined_count old c.args.other.now new table_changes c.recall_table.ensures c.recall_table-2.ensures joins.changes joins.rising.0 joins.joined in
    let come_is : c.count_moved-come.result.0 ≡ come table_changes = c.count_moved-come.ensures.come ∙ ap come c.deref.ensures.value in
    let gone_is : c.count_moved-come.result.1 ≡ gone table_changes = c.count_moved-come.ensures.gone ∙ ap gone c.deref.ensures.value in (
      deleted_in new,
      omega (arith, few_deleted new, c.len-count.ensures.count),
      omega (arith, counted, come_is, gone_is, c.self.invariant),
    )

pub invariant_of-self-2 : goal.invariant_of-self-2
invariant_of-self-2 c =
    let joins = c.in_ok-table_changes.ensures in
    let old = c.self.inside.cells in
    let new = c.join_with_changes.new.records in
    let table_changes = c.in_ok-table_changes.table_changes.items in
    let counted = joined_count old c.args.other.now new table_changes c.recall_table.ensures c.recall_table-2.ensures joins.changes joins.rising.0 joins.joined in
    let come_is : c.count_moved-come.result.0 ≡ come table_changes = c.count_moved-come.ensures.come ∙ ap come c.deref.ensures.value in
    let gone_is : c.count_moved-come.result.1 ≡ gone table_changes = c.count_moved-come.ensures.gone ∙ ap gone c.deref.ensures.value in
    omega (arith, counted, come_is, gone_is, c.self.invariant, c.count_after-self-inside.ensures)

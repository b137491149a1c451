-- The changes so far and those of the rest are all changes.
use Rattle.std.proofs.Common.{◌≡◌, ◌+◌, ◌≤◌, drop}
use Rattle.pn_tablet.proofs.Counting.{come, gone}
use Rattle.pn_tablet.proofs.counted_cells.count_moved.Given as goal

abbrev pub invariant-loop-change : goal.invariant-loop-change
invariant-loop-change l = record {
  all_come : l.come + come (drop l.change-index l.table_changes) ≡ come l.table_changes;
  all_gone : l.gone + gone (drop l.change-index l.table_changes) ≡ gone l.table_changes;
  few_come : l.come ≤ l.change-index;
  few_gone : l.gone ≤ l.change-index;
}

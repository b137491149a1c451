-- The edits taken off so far, the last first, and those that are left.
use Rattle.std.proofs.Common.{◌≡◌, ◌≤◌, ◌++◌, length, reverse}
use Rattle.std.specs.List.{AllByRecursion}
use Rattle.std.specs.Option.{option_to_list}
use Rattle.pn_join.specs.PutAt.{place}
use Rattle.pn_join.proofs.table.open_leaf.open_leaf.Given as goal

abbrev pub invariant-loop-edit : goal.invariant-loop-edit
invariant-loop-edit g l = record {
  parted : l.fn.edits.items ≡ l.edits.items ++ reverse (option_to_list l.first ++ l.more.items);
  from : AllByRecursion (λ edit. l.start ≤ place edit.index) (option_to_list l.first ++ l.more.items);
}

abbrev pub decreases-loop-edit : goal.decreases-loop-edit
decreases-loop-edit g l = length l.edits.items

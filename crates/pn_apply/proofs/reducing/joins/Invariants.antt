-- The cells so far are joined, and there is capacity for those that are left.
use Rattle.std.proofs.Common.{◌≡◌, ◌+◌, ◌++◌, map, length, vec_capacity}
use Rattle.std.specs.Vec.Iter.{into_iter_items}
use Rattle.pn_tablet.specs.declared.state.TabletOp.TheVariants.{Join}
use Rattle.pn_apply.proofs.reducing.joins.Given as goal

abbrev pub invariant-loop-own : goal.invariant-loop-own
invariant-loop-own l = record {
  joined : l.operations.items ++ map (λ own. Join own l.marks) (into_iter_items l.own-iterator) ≡ map (λ own. Join own l.marks) l.fn.cells.items;
  capacity : length l.operations.items + length (into_iter_items l.own-iterator) ≡ vec_capacity l.operations;
}

-- The shares so far stand for their deliveries, and there is capacity for those that are left.
use Rattle.std.proofs.Common.{◌≡◌, ◌+◌, ◌++◌, length, vec_capacity}
use Rattle.std.specs.Vec.Iter.{into_iter_items}
use Rattle.pn_apply.proofs.share.shares_of.Given as goal

abbrev pub invariant-loop-delivery : goal.invariant-loop-delivery
invariant-loop-delivery l = record {
  shares : l.shares.items ++ into_iter_items l.delivery-iterator ≡ l.fn.deliveries.items;
  capacity : length l.shares.items + length (into_iter_items l.delivery-iterator) ≡ vec_capacity l.shares;
}

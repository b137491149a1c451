-- The mark is that after the batches so far.
use Rattle.std.proofs.Common.{◌≡◌, map, take}
use Rattle.pn_region.proofs.Common.{position_of, with_deliveries}
use Rattle.pn_region.proofs.marking.mark_after.Given as goal

abbrev pub invariant-loop-delivery : goal.invariant-loop-delivery
invariant-loop-delivery g l = l.mark ≡ position_of (with_deliveries l.fn.marks (map g.B.Batch.delivery (take l.delivery-index l.deliveries))) l.fn.stream

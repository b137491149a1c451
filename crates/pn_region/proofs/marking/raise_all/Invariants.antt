-- The marks are those after the batches so far.
use Rattle.std.proofs.Common.{◌≡◌, map, take, IsTrue}
use Rattle.pn_region.proofs.Common.{are_positions, with_deliveries}
use Rattle.pn_region.proofs.marking.raise_all.Given as goal

abbrev pub invariant-loop-delivery : goal.invariant-loop-delivery
invariant-loop-delivery g l = record {
  followed : l.next ≡ with_deliveries l.fn.marks (map g.B.Batch.delivery (take l.delivery-index l.deliveries));
  positions : IsTrue (are_positions l.next);
}

-- The deliveries so far are followed, and the streams are counted.
use Rattle.std.proofs.Common.{◌≡◌, ◌-◌, ◌^◌, min, map, take, length, IsTrue}
use Rattle.pn_region.proofs.Common.{Ok, is_sorted, name_cmp, are_positions, with_images, with_deliveries, marks_after}
use Rattle.pn_region.proofs.marking.check_marks.Given as goal

abbrev pub invariant-loop-index : goal.invariant-loop-index
invariant-loop-index g l = record {
  so_far : marks_after l.fn.marks (with_images (take l.index (map g.B.Batch.delivery l.fn.deliveries))) ≡ Ok (with_deliveries l.fn.marks (take l.index (map g.B.Batch.delivery l.fn.deliveries)));
  count : l.streams ≡ min (length (with_deliveries l.fn.marks (take l.index (map g.B.Batch.delivery l.fn.deliveries)))) (2 ^ 64 - 1);
  positions : IsTrue (are_positions (with_deliveries l.fn.marks (take l.index (map g.B.Batch.delivery l.fn.deliveries))));
  rising : IsTrue (is_sorted name_cmp (with_deliveries l.fn.marks (take l.index (map g.B.Batch.delivery l.fn.deliveries))));
}

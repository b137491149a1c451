-- The cells so far hold the images of the shares so far in the range.
use Rattle.std.proofs.Common.{IsTrue, take}
use Rattle.std.specs.FinMap.{is_sorted}
use Rattle.pn_record.specs.Sets.{bytes_cmp}
use Rattle.pn_record.specs.Cells.{Holds}
use Rattle.pn_apply.specs.Reducing.{all_images, images_in}
use Rattle.pn_apply.proofs.reducing.cells_in.Given as goal

abbrev pub invariant-loop-share : goal.invariant-loop-share
invariant-loop-share l = record {
  held : Holds l.cells (images_in l.range (all_images (take l.share-index l.shares)));
  rising : IsTrue (is_sorted bytes_cmp l.cells);
}

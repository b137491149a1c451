-- The entries and the images that are left are those of all images, and there is room for the entries to come.
use Rattle.std.proofs.Common.{◌+◌, ◌≤◌, List, length, vec_capacity}
use Rattle.pn_record.specs.declared.records.Image.{Image}
use Rattle.pn_apply.specs.Reducing.{AreMade}
use Rattle.pn_apply.proofs.share.make_entries.Given as goal

abbrev pub invariant-loop-image : goal.invariant-loop-image
invariant-loop-image l = record {
  made : (images : List Image) → AreMade images l.fn.left.items l.fn.entries.items → AreMade images l.left.items l.entries.items;
  room : length l.entries.items + length l.left.items ≤ vec_capacity l.entries;
}

abbrev pub decreases-loop-image : goal.decreases-loop-image
decreases-loop-image l = length l.left.items

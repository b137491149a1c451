-- The copies so far were added, and the rest is to be read.
use Rattle.std.proofs.Common.{◌≡◌, length}
use Rattle.std.specs.Vec.Iter.{into_iter_items, into_iter_len}
use Rattle.pn_serve.proofs.CopyReads.{AddedSoFar}
use Rattle.pn_serve.proofs.copies.reading.add_copies.Given as goal

abbrev pub invariant-loop-copy : goal.invariant-loop-copy
invariant-loop-copy l = record {
  so_far : AddedSoFar l.fn.read.items l.initial.copies.items l.copies.items (into_iter_items l.copy-iterator);
  left : into_iter_len l.copy-iterator ≡ length (into_iter_items l.copy-iterator);
}

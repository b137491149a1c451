-- If the readers that are left know no more than is published, no reader does.
use Rattle.std.proofs.Common.{◌≡◌, length}
use Rattle.std.specs.List.{AllByRecursion}
use Rattle.std.specs.Vec.Iter.{into_iter_items, into_iter_len}
use Rattle.pn_live.specs.Readers.{AllKnowPublished, ReadsFrom}
use Rattle.pn_live.proofs.region.closing.was_all_seen.Given as goal

abbrev pub invariant-loop-reader : goal.invariant-loop-reader
invariant-loop-reader l = record {
  of : AllByRecursion (ReadsFrom l.tablets) (into_iter_items l.reader-iterator);
  seen : AllByRecursion (λ reader. AllKnowPublished l.tablets reader.tablet_readers) (into_iter_items l.reader-iterator)
      → AllByRecursion (λ reader. AllKnowPublished l.tablets reader.tablet_readers) l.fn.readers.items;
  left : into_iter_len l.reader-iterator ≡ length (into_iter_items l.reader-iterator);
}

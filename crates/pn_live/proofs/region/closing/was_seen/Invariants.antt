-- If the readers that are left know no more than is published, no reader does.
use Rattle.std.proofs.Common.{◌≡◌, drop, length}
use Rattle.std.specs.Vec.Iter.{into_iter_items, into_iter_len}
use Rattle.pn_live.specs.Readers.{AllKnowPublished, AreOfTablets}
use Rattle.pn_live.proofs.region.closing.was_seen.Given as goal

abbrev pub invariant-loop-reader : goal.invariant-loop-reader
invariant-loop-reader l = record {
  of : AreOfTablets (drop l.number l.tablets) (into_iter_items l.reader-iterator);
  seen : AllKnowPublished (drop l.number l.tablets) (into_iter_items l.reader-iterator) → AllKnowPublished l.tablets l.fn.tablet_readers.items;
  left : into_iter_len l.reader-iterator ≡ length (into_iter_items l.reader-iterator);
}

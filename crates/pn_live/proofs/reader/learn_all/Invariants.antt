-- The notes so far are learnt.
use Rattle.std.proofs.Common.{◌≡◌, drop, length}
use Rattle.std.specs.Vec.Iter.{into_iter_items, into_iter_len}
use Rattle.pn_live.specs.Readers.{Learns}
use Rattle.pn_live.proofs.Appending.{DoneFirst}
use Rattle.pn_live.proofs.reader.learn_all.Given as goal

abbrev pub invariant-loop-note : goal.invariant-loop-note
invariant-loop-note l = record {
  done : DoneFirst Learns l.number l.fn.tablet_readers l.fn.notes.items l.tablet_readers;
  rest : into_iter_items l.note-iterator ≡ drop l.number l.fn.notes.items;
  left : into_iter_len l.note-iterator ≡ length (into_iter_items l.note-iterator);
}

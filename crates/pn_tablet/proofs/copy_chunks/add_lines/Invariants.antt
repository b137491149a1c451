-- What was added, with the lines that are left, is what all lines come to.
use Rattle.std.proofs.Common.{◌≡◌, ◌+◌, length, All}
use Rattle.std.specs.Vec.Iter.{into_iter_items, into_iter_len}
use Rattle.pn_tablet.specs.CopyReading.{IsMarkOrImage, with_lines}
use Rattle.pn_tablet.proofs.copy_chunks.add_lines.Given as goal

abbrev pub invariant-loop-line : goal.invariant-loop-line
invariant-loop-line l = record {
  adds : with_lines 2 l.initial.draft l.fn.says.items ≡ with_lines l.number l.draft (into_iter_items l.line-iterator);
  kinds : All IsMarkOrImage (into_iter_items l.line-iterator);
  number : l.number + length (into_iter_items l.line-iterator) ≡ length l.fn.says.items + 2;
  left : into_iter_len l.line-iterator ≡ length (into_iter_items l.line-iterator);
}

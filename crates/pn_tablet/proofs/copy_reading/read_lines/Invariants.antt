-- The rest of the text, after what was read, is read as the whole text.
use Rattle.std.proofs.Common.{◌≡◌, ◌+◌, ◌≤◌, length}
use Rattle.pn_tablet.specs.CopyReading.{pieces_of, read_on}
use Rattle.pn_tablet.proofs.copy_reading.read_lines.Given as goal

abbrev pub invariant-lines : goal.invariant-lines
invariant-lines l = record {
  reads : read_on l.form l.fn.first l.initial.draft (pieces_of l.fn.text) ≡ read_on l.form l.number l.draft (pieces_of l.rest);
  some : 2 ≤ l.number;
  within : l.number + length l.rest ≤ l.fn.first + length l.fn.text;
}

abbrev pub decreases-lines : goal.decreases-lines
decreases-lines l = length l.rest

-- The lines so far begin the text, and the rest of it is left.
use Rattle.std.proofs.Common.{◌≤◌, length}
use Rattle.pn_tablet.specs.CopyReading.{BeginsWith}
use Rattle.pn_tablet.proofs.copy_chunks.read_chunk.Given as goal

abbrev pub invariant-lines : goal.invariant-lines
invariant-lines l = record {
  begins : BeginsWith l.form l.fn.text l.says.items l.rest;
  within : length l.rest ≤ length l.fn.text;
}

abbrev pub decreases-lines : goal.decreases-lines
decreases-lines l = length l.rest

-- The cells so far are those of the tablets before, in the range.
use Rattle.std.proofs.Common.{◌≡◌, take}
use Rattle.pn_apply.proofs.Tables.{entries_that}
use Rattle.pn_region.proofs.Common.{in_range}
use Rattle.pn_region.proofs.Pieces.{cells_of}
use Rattle.pn_region.proofs.region.relayout.cells_in.Given as goal

abbrev pub invariant-loop-tablet : goal.invariant-loop-tablet
invariant-loop-tablet l = l.cells ≡ entries_that (in_range l.range) (cells_of (take l.tablet-index l.tablets))

-- A number is in the cells that are left exactly where one is in all.
use Rattle.std.proofs.Common.{◌≡◌}
use Rattle.std.specs.List.{list_any}
use Rattle.pn_record.specs.Cells.{spell}
use Rattle.pn_tablet.proofs.CopyLineCounts.{holds}
use Rattle.pn_tablet.proofs.copy.form_of.Given as goal

abbrev pub invariant-loop-key : goal.invariant-loop-key
invariant-loop-key l = list_any holds (spell l._key-iterator) ≡ list_any holds (spell l.cells)

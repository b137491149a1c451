-- What was written, and the cells that are left, are all cells.
use Rattle.std.proofs.Common.{◌≡◌, ◌+◌, ◌≤◌, ◌++◌, map, length}
use Rattle.std.specs.List.{AllByRecursion}
use Rattle.pn_record.specs.Cells.{spell}
use Rattle.pn_tablet.specs.CopyWriting.{lines_text, IsWrittenLine}
use Rattle.pn_tablet.specs.declared.copy_line.CopyLine.TheVariants.{Record}
use Rattle.pn_tablet.proofs.copy_reading.write_cells.Given as goal

abbrev pub invariant-loop-key : goal.invariant-loop-key
invariant-loop-key l = record {
  text : l.text.items ++ lines_text (map Record (spell l.key-iterator)) ≡ l.initial.text.items ++ lines_text (map Record (spell l.cells));
  lines : AllByRecursion IsWrittenLine (map Record (spell l.key-iterator)) → AllByRecursion IsWrittenLine (map Record (spell l.cells));
  count : l.count + length (spell l.key-iterator) ≡ length (spell l.cells);
  longer : length l.initial.text.items + l.count ≤ length l.text.items;
}

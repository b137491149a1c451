-- What was written, and the marks that are left, are all marks.
use Rattle.std.proofs.Common.{◌≡◌, ◌++◌, map, true}
use Rattle.std.specs.List.{AllByRecursion}
use Rattle.pn_join.specs.Marks.{are_positions}
use Rattle.pn_tablet.specs.CopyTexts.{mark_line}
use Rattle.pn_tablet.specs.CopyWriting.{lines_text, IsWrittenLine}
use Rattle.pn_tablet.proofs.copy_reading.write_marks.Given as goal

abbrev pub invariant-loop-name : goal.invariant-loop-name
invariant-loop-name l = record {
  text : l.text.items ++ lines_text (map mark_line l.name-iterator) ≡ l.initial.text.items ++ lines_text (map mark_line l.marks);
  lines : AllByRecursion IsWrittenLine (map mark_line l.name-iterator) → AllByRecursion IsWrittenLine (map mark_line l.marks);
  positions : are_positions l.name-iterator ≡ true;
}

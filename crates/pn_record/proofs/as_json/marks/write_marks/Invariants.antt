-- What was written, and the marks that are left, are all marks.
use Rattle.std.proofs.Common.{◌≡◌, ◌++◌}
use Rattle.std.specs.List.{flat_map}
use Rattle.pn_record.specs.Writing.{mark_tokens}
use Rattle.pn_record.proofs.as_json.marks.write_marks.Given as goal

abbrev pub invariant-loop-name : goal.invariant-loop-name
invariant-loop-name l = record {
  before : l.writer.before ≡ l.initial.writer.before;
  tokens : l.writer.tokens ++ flat_map mark_tokens l.name-iterator ≡ l.initial.writer.tokens ++ flat_map mark_tokens l.marks;
}

-- The marks so far, and those of what is left, are the marks of all; what is left are marks.
use Rattle.std.proofs.Common.{◌≡◌, ◌++◌, true}
use Rattle.std.specs.List.{list_all}
use Rattle.serde_json.specs.View.{members_view}
use Rattle.pn_record.specs.Marks.{is_mark, positions_of}
use Rattle.pn_record.proofs.as_json.marks.marks_from.Given as goal

abbrev pub invariant-loop-name : goal.invariant-loop-name
invariant-loop-name l = record {
  all : l.marks ++ positions_of (members_view l.name-iterator) ≡ positions_of (members_view l.members.entries);
  left : list_all is_mark (positions_of (members_view l.name-iterator)) ≡ true;
}

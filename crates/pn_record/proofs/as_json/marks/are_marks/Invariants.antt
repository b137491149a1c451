-- What is left is marks exactly where all is.
use Rattle.std.proofs.Common.{◌≡◌}
use Rattle.std.specs.List.{list_all}
use Rattle.serde_json.specs.View.{members_view}
use Rattle.pn_record.specs.Marks.{is_mark, positions_of}
use Rattle.pn_record.proofs.as_json.marks.are_marks.Given as goal

abbrev pub invariant-loop-name : goal.invariant-loop-name
invariant-loop-name l =
    list_all is_mark (positions_of (members_view l.name-iterator)) ≡ list_all is_mark (positions_of (members_view l.members.entries))

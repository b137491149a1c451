-- The members so far, with the marks that are left put to them, are those of all marks, and the names that are left are names.
use Rattle.std.proofs.Common.{◌≡◌}
use Rattle.std.specs.List.{list_all}
use Rattle.serde_json.specs.View.{members_view}
use Rattle.pn_join.specs.Naming.{is_name}
use Rattle.pn_record.specs.Marks.{positions_data}
use Rattle.pn_record.proofs.MarksValues.{put_all}
use Rattle.pn_record.proofs.as_json.marks.members_of.Given as goal

abbrev pub invariant-loop-name : goal.invariant-loop-name
invariant-loop-name l = record {
  members : put_all (members_view l.members.entries) l.name-iterator ≡ positions_data l.marks;
  names : list_all (λ mark. is_name mark.0) l.name-iterator ≡ list_all (λ mark. is_name mark.0) l.marks;
}

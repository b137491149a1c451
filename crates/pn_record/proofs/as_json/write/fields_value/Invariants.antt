-- The members are those of the fields so far.
use Rattle.std.proofs.Common.{◌≡◌, map, take}
use Rattle.serde_json.specs.View.{members_view}
use Rattle.pn_record.specs.Showing.{shown_field}
use Rattle.pn_record.specs.Writing.{fields_data}
use Rattle.pn_record.proofs.as_json.write.fields_value.Given as goal

abbrev pub invariant-loop-name : goal.invariant-loop-name
invariant-loop-name l =
    members_view l.members.entries ≡ fields_data (take l.name-index (map shown_field l.fields))

-- The fields so far, and those of what is left, are the fields of all.
use Rattle.std.proofs.Common.{◌≡◌, ◌++◌, map}
use Rattle.serde_json.specs.View.{members_view}
use Rattle.pn_record.specs.Showing.{shown_field}
use Rattle.pn_record.specs.Grammar.{fields_of}
use Rattle.pn_record.proofs.as_json.moved.fields_from.Given as goal

abbrev pub invariant-loop-name : goal.invariant-loop-name
invariant-loop-name l =
    map shown_field l.fields.items ++ fields_of (members_view l.name-iterator) ≡ fields_of (members_view l.fn.members.entries)

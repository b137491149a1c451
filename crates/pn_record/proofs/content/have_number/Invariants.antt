-- There is a number among the fields that are left exactly where there is one among all.
use Rattle.std.proofs.Common.{◌≡◌, map, drop}
use Rattle.pn_record.specs.Showing.{have_number, shown_field}
use Rattle.pn_record.proofs.content.have_number.Given as goal

abbrev pub invariant-loop-field : goal.invariant-loop-field
invariant-loop-field l =
    have_number (map shown_field (drop l.field-index l.fields)) ≡ have_number (map shown_field l.fields)

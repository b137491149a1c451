-- The copy shows the fields so far.
use Rattle.std.proofs.Common.{◌≡◌, map, take}
use Rattle.pn_record.specs.Showing.{shown_field}
use Rattle.pn_record.proofs.content.dup_fields.Given as goal

abbrev pub invariant-loop-field : goal.invariant-loop-field
invariant-loop-field l = map shown_field l.copy.items ≡ take l.field-index (map shown_field l.fields)

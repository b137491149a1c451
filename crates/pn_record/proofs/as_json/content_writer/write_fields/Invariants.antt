-- The fields so far were written.
use Rattle.std.proofs.Common.{map, take}
use Rattle.std.specs.List.{flat_map}
use Rattle.pn_record.specs.Showing.{shown_field}
use Rattle.pn_json.specs.Tokens.{Appends}
use Rattle.pn_record.specs.Writing.{field_tokens}
use Rattle.pn_record.proofs.as_json.content_writer.write_fields.Given as goal

abbrev pub invariant-loop-field : goal.invariant-loop-field
invariant-loop-field l = Appends l.initial.writer l.writer (flat_map field_tokens (map shown_field (take l.field-index l.fields)))

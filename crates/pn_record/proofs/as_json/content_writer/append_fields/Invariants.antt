-- The fields so far were added.
use Rattle.std.proofs.Common.{map, drop, false}
use Rattle.serde_json.specs.Written.{members_text}
use Rattle.pn_json.proofs.AppendedTexts.{AppendsPart}
use Rattle.pn_record.specs.Showing.{shown_field}
use Rattle.pn_record.specs.Writing.{fields_data}
use Rattle.pn_record.proofs.as_json.content_writer.append_fields.Given as goal

abbrev pub invariant-loop-field : goal.invariant-loop-field
invariant-loop-field l = AppendsPart l.initial.out l.out (members_text l.later (fields_data (map shown_field (drop l.field-index l.fields)))) (members_text false (fields_data (map shown_field l.fields)))

-- The name, a colon and the value.
use Rattle.std.proofs.Common.{◌∷◌, ◌++◌}
use Rattle.json.specs.Print.{quoted}
use Rattle.serde_json.specs.Written.{comma_if, compact_text}
use Rattle.pn_json.proofs.AppendedTexts.{appended_as, appended_both}
use Rattle.pn_record.specs.Showing.{shown_value}
use Rattle.pn_record.specs.Writing.{value_data}
use Rattle.pn_record.proofs.as_json.content_writer.append_field.Goals as goal

pub returns : goal.returns
returns c =
    appended_as (λ i. comma_if c.args.later ++ (quoted (c.as_str.ensures.value i) ++ 58 ∷ compact_text (value_data (shown_value c.args.field.now.1))))
    (appended_both c.append_comma.ensures (appended_both c.append_string.ensures (appended_both c.append_text.ensures c.append_value.ensures)))

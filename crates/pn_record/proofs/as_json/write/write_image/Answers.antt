-- The text that `serde_json` writes for the image's JSON, and reads back.
use Rattle.std.proofs.Common.{◌≡◌, ◌≤◌, ◌∙◌, false, sym, ap, subst, string_bytes, Some}
use Rattle.std.proofs.lemmas.Str.{IsUtf8-had}
use Rattle.serde_json.specs.Data.{Data, depth}
use Rattle.serde_json.specs.View.{view}
use Rattle.serde_json.specs.Written.{compact_text, has_float}
use Rattle.pn_record.specs.Writing.{image_data}
use Rattle.pn_record.specs.Reading.{IsImageLine}
use Rattle.pn_record.proofs.ImageText.{has_float-image_data, depth-image_data, short_text, written_line}
use Rattle.pn_record.proofs.ImageLines.{image_line_again}
use Rattle.pn_record.proofs.as_json.write.write_image.Goals as goal

text_is : (c : goal.Joined-value-2) → string_bytes c.in_ok-to_string.field-0 ≡ compact_text (image_data c.args.image.now)
text_is c =
    let no_float : has_float (view c.in_ok-value.value) ≡ false = ap has_float c.in_ok-value.ensures.value ∙ has_float-image_data c.args.image.now in
    c.in_ok-to_string.ensures.text no_float ∙ ap compact_text c.in_ok-value.ensures.value

line_of : (c : goal.Joined-value-2) → IsImageLine (string_bytes c.in_ok-to_string.field-0) c.args.image.now
line_of c =
    let deep : depth (view c.in_ok-value.value) ≤ 127 = subst (λ (d : Data). depth d ≤ 127) (sym c.in_ok-value.ensures.value) (depth-image_data c.args.image.now) in
    written_line _ c.args.image.now c.in_ok-value.ensures.limits (IsUtf8-had _ c.in_ok-to_string.field-0.ok) (text_is c) (c.in_ok-to_string.ensures.reads_back deep ∙ ap Some c.in_ok-value.ensures.value)

pub returns-clause-text : goal.returns-clause-text
returns-clause-text c = text_is c

pub returns-clause-line : goal.returns-clause-line
returns-clause-line c = line_of c

pub returns-clause-reads_back : goal.returns-clause-reads_back
returns-clause-reads_back c = image_line_again _ _ (line_of c)

pub returns-clause-short : goal.returns-clause-short
returns-clause-short c = short_text _ _ c.in_ok-value.ensures.limits (text_is c)

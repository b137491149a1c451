-- One field more, and at the end the brace.
use Rattle.pn_json.proofs.AppendedTexts.{appended_as, appended_both, part_none, part_more, part_last}
use Rattle.pn_record.specs.Showing.{shown_field}
use Rattle.pn_record.proofs.ImageText.{next_field, no_field}
use Rattle.pn_record.proofs.as_json.content_writer.append_fields.Goals as goal

pub loop-field-init : goal.loop-field-init
loop-field-init c = part_none _ _

pub loop-field-preserved : goal.loop-field-preserved
loop-field-preserved c =
    part_more c.loop-field.invariant (next_field shown_field c.loop-field.later c.args.fields.now c.loop-field.field-index c.field-item.result c.field-item.is c.loop-field-test.true) c.append_field.ensures

pub returns : goal.returns
returns c =
    let over = no_field shown_field c.loop-field.later c.args.fields.now c.loop-field.field-index c.loop-field-test.false in
    appended_both c.append_text.ensures (part_last c.loop-field.invariant (appended_as over c.append_text-2.ensures))

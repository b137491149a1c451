-- One more field is copied.
use Rattle.std.proofs.Common.{map, ap, ◌∙◌}
use Rattle.pn_record.specs.Showing.{shown_field}
use Rattle.pn_record.proofs.ShapeParts.{copied_more}
use Rattle.pn_record.proofs.content.dup_fields.Goals as goal

pub loop-field-preserved : goal.loop-field-preserved
loop-field-preserved c =
    ap (map shown_field) c.in_ok-push.ensures.items
    ∙ copied_more shown_field c.args.fields.now c.loop-field.field-index c.field-item.result c.field-item.is c.loop-field-test.true c.loop-field.copy.items c.in_ok-dup_field.field-0 c.loop-field.invariant c.in_ok-dup_field.ensures

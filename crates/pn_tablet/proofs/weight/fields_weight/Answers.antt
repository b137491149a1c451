-- One field more is weighed.
use Rattle.std.proofs.Common.{◌≡◌, ◌-◌, ◌^◌, min, ap, ◌∙◌, arith}
use Rattle.pn_record.specs.Showing.{shown_field}
use Rattle.pn_tablet.specs.Tablets.{field_weight}
use Rattle.pn_tablet.proofs.Counting.{weight_all, weight_more}
use Rattle.pn_tablet.proofs.weight.fields_weight.Goals as goal

pub loop-field-preserved : goal.loop-field-preserved
loop-field-preserved c =
    let more = weight_more field_weight shown_field c.args.fields.now c.loop-field.field-index c.field-item.result c.field-item.is (omega arith) in
    omega (arith, more, c.field_weight.ensures, c.saturating_add-weight.ensures, c.loop-field.invariant)

pub returns : goal.returns
returns c =
    c.loop-field.invariant
    ∙ ap (λ n. min n (2 ^ 64 - 1)) (weight_all field_weight shown_field c.args.fields.now c.loop-field.field-index (omega arith))

-- One field more is written, and at the end all.
use Rattle.std.proofs.Common.{map, refl, ap}
use Rattle.std.specs.List.{flat_map}
use Rattle.std.proofs.lemmas.List.{take_all}
use Rattle.pn_record.specs.Showing.{shown_field}
use Rattle.pn_record.specs.Writing.{field_tokens, value_data, fields_data}
use Rattle.pn_json.proofs.AppendedTexts.{appends_none, appends_token, appends_both, appends_as, whole_object, one_more}
use Rattle.pn_record.specs.Limits.{Field}
use Rattle.pn_record.proofs.as_json.content_writer.write_fields.Goals as goal

pub loop-field-init : goal.loop-field-init
loop-field-init c = appends_none _

pub loop-field-preserved : goal.loop-field-preserved
loop-field-preserved c =
    appends_as (one_more shown_field field_tokens c.args.fields.now c.loop-field.field-index c.field-item.result c.field-item.is c.loop-field-test.true)
    (appends_both c.loop-field.invariant c.in_ok-write_field.ensures)

pub returns : goal.returns
returns c =
    let fields = c.args.fields.now in
    let all = ap (λ fs. flat_map field_tokens (map shown_field fs)) (take_all c.loop-field.field-index fields c.loop-field-test.false) in
    whole_object (λ (f : Field). f.0) (λ (f : Field). value_data f.1) fields_data refl (λ f fs. refl) (map shown_field fields) (appends_token c.in_ok-begin_object.ensures) (appends_as all c.loop-field.invariant) (appends_token c.in_ok-end_object.ensures)

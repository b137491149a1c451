-- One more field fits and is counted.
use Rattle.std.proofs.Common.{◌≡◌, true, sym, ap, ◌∙◌, arith}
use Rattle.pn_record.specs.Limits.{value_size, is_field}
use Rattle.pn_record.specs.Showing.{shown_value, shown_field}
use Rattle.pn_record.proofs.ShapeParts.{unfit, fit_more, size_more, size_bound}
use Rattle.pn_record.proofs.content.fields_fit.Goals as goal

pub returns-then-not-fits : goal.returns-then-not-fits
returns-then-not-fits c = sym (unfit shown_field c.args.fields.now c.loop-field.field-index c.field-item.result c.field-item.is c.loop-field-test.true (sym c.fits.ensures ∙ c.if-not-fits.true))

pub loop-field-preserved : goal.loop-field-preserved
loop-field-preserved c =
    let fields = c.args.fields.now in
    let i = c.loop-field.field-index in
    let item = c.field-item.result in
    let good : is_field (shown_field item) ≡ true = sym c.fits.ensures ∙ c.if-not-fits.false in
    let more = size_more shown_field fields i item c.field-item.is c.loop-field-test.true in
    let bound = size_bound shown_field fields i item c.field-item.is c.loop-field-test.true good in
    let size : c.size.result ≡ value_size (shown_value item.1) = c.size.ensures ∙ ap value_size c.as_ref.ensures in
    record {
      fit = fit_more shown_field fields i item c.field-item.is c.loop-field-test.true c.loop-field.invariant.fit good;
      counted = omega (arith, size);
      bounded = omega (arith, size);
    }

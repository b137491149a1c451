-- One value more is a condition, or one is none; at the end all are.
use Rattle.std.proofs.Common.{length, nat_le, sym, ◌∙◌, arith}
use Rattle.pn_scan.specs.declared.query.TheConstants.{MAX_CONDITIONS}
use Rattle.pn_scan.proofs.Conditions.{bad_at, one_more_is, one_more_fits, one_more_shown, same_parsed}
use Rattle.pn_scan.proofs.unchecked_conditions.parse_conditions.Goals as goal

pub loop-value-preserved : goal.loop-value-preserved
loop-value-preserved c =
    let values = c.args.values.now in
    let i = c.loop-value.value-index in
    let value = c.value-item.result in
    let here = c.value-item.is in
    let within = c.loop-value-test.true in
    let is = sym c.condition_of.ensures ∙ c.in-Some.is in
    record {
      all = one_more_is values i value c.in-Some.condition here within is c.loop-value.invariant.all;
      fits = c.with_condition-next.ensures.fit ∙ one_more_fits values i value c.in-Some.condition here within is (nat_le (length values) MAX_CONDITIONS) c.loop-value.fit c.loop-value.invariant.fits;
      shown = one_more_shown values i value c.in-Some.condition here within is (λ made. made.items) c.loop-value.made c.with_condition-next.result.1 c.loop-value.invariant.shown c.with_condition-next.ensures.made;
    }

pub returns-in_default-clause-none : goal.returns-in_default-clause-none
returns-in_default-clause-none c = λ none. bad_at c.args.values.now c.loop-value.value-index c.value-item.result c.value-item.is c.loop-value-test.true (sym c.condition_of.ensures ∙ c.in_default.is)

pub returns-clause-parsed : goal.returns-clause-parsed
returns-clause-parsed c =
    same_parsed (λ made. made.items) c.args.values.now c.loop-value.value-index c.loop-value.fit c.loop-value.made (omega (arith, c.loop-value-test.false)) c.loop-value.invariant.all c.loop-value.invariant.fits c.loop-value.invariant.shown

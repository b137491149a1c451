-- A field of the name is the one; another is passed over.
use Rattle.std.proofs.Common.{sym, ap, ◌∙◌, arith}
use Rattle.std.specs.Str.{bytes_eq}
use Rattle.std.proofs.lemmas.Map.Text.{is_eq-slice_cmp}
use Rattle.pn_record.specs.Sets.{bytes_cmp}
use Rattle.pn_record.specs.Showing.{shown_field}
use Rattle.pn_scan.proofs.Conditions.{one_found, one_passed, none_left}
use Rattle.pn_scan.proofs.filter.field_value.Goals as goal

pub returns-then-eq : goal.returns-then-eq
returns-then-eq c =
    one_found bytes_cmp c.args.name.now shown_field c.args.fields.now c.loop-other.other-index c.loop-other-item.result c.loop-other-item.is (omega arith) (is_eq-slice_cmp c.args.name.now (shown_field c.loop-other-item.result).0 ∙ ap (λ other. bytes_eq c.args.name.now other) (sym c.as_str.ensures.value) ∙ sym c.eq.ensures ∙ c.if-eq.true)
    ∙ c.loop-other.invariant

pub loop-other-preserved : goal.loop-other-preserved
loop-other-preserved c =
    one_passed bytes_cmp c.args.name.now shown_field c.args.fields.now c.loop-other.other-index c.loop-other-item.result c.loop-other-item.is (omega arith) (is_eq-slice_cmp c.args.name.now (shown_field c.loop-other-item.result).0 ∙ ap (λ other. bytes_eq c.args.name.now other) (sym c.as_str.ensures.value) ∙ sym c.eq.ensures ∙ c.if-eq.false)
    ∙ c.loop-other.invariant

pub returns : goal.returns
returns c =
    none_left bytes_cmp c.args.name.now shown_field c.args.fields.now c.loop-other.other-index (omega arith)
    ∙ c.loop-other.invariant

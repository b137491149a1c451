-- Each name is compared with the one before it.
use Rattle.std.proofs.Common.{◌≡◌, ◌-◌, suc, sym, ◌∙◌, arith}
use Rattle.std.proofs.lemmas.Cmp.{nat_list_cmp_total}
use Rattle.pn_record.specs.Showing.{shown_field}
use Rattle.pn_record.proofs.Sorted.{sorted_step, unsorted_step, is_less}
use Rattle.pn_record.proofs.content.names_rise.Goals as goal

pub returns-then-not-is_below : goal.returns-then-not-is_below
returns-then-not-is_below c =
    let i = c.loop-i.i in
    let after : suc (i - 1) ≡ i = omega arith in
    let a = c.index-fields-i.result in
    let b = c.index-fields-i-in-loop-i.result in
    sym (unsorted_step nat_list_cmp_total shown_field c.args.fields.now (i - 1) i after a b c.index-fields-i.is c.index-fields-i-in-loop-i.is c.loop-i-test.true (sym c.is_below.ensures ∙ c.if-not-is_below.true))

pub loop-i-preserved : goal.loop-i-preserved
loop-i-preserved c =
    let i = c.loop-i.i in
    let after : suc (i - 1) ≡ i = omega arith in
    let a = c.index-fields-i.result in
    let b = c.index-fields-i-in-loop-i.result in
    sorted_step nat_list_cmp_total shown_field c.args.fields.now (i - 1) i after a b c.index-fields-i.is c.index-fields-i-in-loop-i.is c.loop-i-test.true c.loop-i.invariant (is_less _ (sym c.is_below.ensures ∙ c.if-not-is_below.false))

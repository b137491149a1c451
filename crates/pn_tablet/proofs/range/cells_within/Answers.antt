-- The cells of a range are those from the number of keys below it to the number before its end.
use Rattle.std.proofs.Common.{◌≡◌, not, count_by, slice_range, ap, ◌∙◌, arith}
use Rattle.std.proofs.lemmas.List.Sums.{count_by-le-length}
use Rattle.std.proofs.lemmas.Result.{IfOk-weaker}
use Rattle.pn_tablet.specs.Layouts.{is_from, is_before}
use Rattle.pn_tablet.proofs.Within.{within_slice, within_order}
use Rattle.pn_tablet.proofs.range.cells_within.Goals as goal

pub slice-requires-clause-order : goal.slice-requires-clause-order
slice-requires-clause-order c =
    let from : c.count_below-from.result ≡ count_by (λ entry. not (is_from c.args.range.now.0 entry.0)) c.args.cells.now =
    c.count_below-from.ensures ∙ ap (λ end. count_by (λ entry. not (is_from end entry.0)) c.args.cells.now) c.from.ensures.from in
    let to : c.count_before-to.result ≡ count_by (λ entry. is_before c.args.range.now.1 entry.0) c.args.cells.now =
    c.count_before-to.ensures ∙ ap (λ end. count_by (λ entry. is_before end entry.0) c.args.cells.now) c.to.ensures.to in
    omega (arith, from, to, within_order c.args.range.now c.args.cells.now c.to.ensures.order)

pub slice-requires-clause-within : goal.slice-requires-clause-within
slice-requires-clause-within c =
    let to : c.count_before-to.result ≡ count_by (λ entry. is_before c.args.range.now.1 entry.0) c.args.cells.now =
    c.count_before-to.ensures ∙ ap (λ end. count_by (λ entry. is_before end entry.0) c.args.cells.now) c.to.ensures.to in
    omega (arith, to, count_by-le-length (λ entry. is_before c.args.range.now.1 entry.0) c.args.cells.now)

pub returns : goal.returns
returns c =
    let from : c.count_below-from.result ≡ count_by (λ entry. not (is_from c.args.range.now.0 entry.0)) c.args.cells.now =
    c.count_below-from.ensures ∙ ap (λ end. count_by (λ entry. not (is_from end entry.0)) c.args.cells.now) c.from.ensures.from in
    let to : c.count_before-to.result ≡ count_by (λ entry. is_before c.args.range.now.1 entry.0) c.args.cells.now =
    c.count_before-to.ensures ∙ ap (λ end. count_by (λ entry. is_before end entry.0) c.args.cells.now) c.to.ensures.to in
    IfOk-weaker c.slice.result _ _ (λ part is.
    is ∙ (λ i. slice_range c.args.cells.now (from i) (to i)) ∙ within_slice c.args.range.now c.args.cells.now c.to.ensures.order c.recall_order.ensures) c.slice.ensures

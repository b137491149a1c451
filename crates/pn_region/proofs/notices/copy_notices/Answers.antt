-- One more change has its number.
use Rattle.std.proofs.Common.{◌≡◌, ◌+◌, ◌++◌, List, length, drop, slice_get, Some, sym, ap, ◌∙◌, arith}
use Rattle.std.proofs.lemmas.List.{length_push}
use Rattle.pn_region.specs.declared.notices.Notice.{Notice}
use Rattle.pn_region.specs.Log.{notices_from}
use Rattle.pn_region.proofs.LogLaws.{told_more}
use Rattle.pn_region.proofs.notices.copy_notices.Goals as goal

pub loop-index-preserved : goal.loop-index-preserved
loop-index-preserved c =
    let was = c.loop-index in
    let kept = c.args.kept.now.items in
    let copy = c.in_ok-copy_of.field-0 in
    let got : slice_get kept was.index ≡ Some copy = sym c.in-Some.ensures ∙ ap Some (sym c.in_ok-copy_of.ensures) in
    let count = ap length c.push_reserved.ensures.items ∙ length_push was.list.items (record { number = was.number + 1; change = copy }) in
    record {
      told =
          ap (λ (l : List Notice). l ++ notices_from (was.number + 1) (drop (was.index + 1) kept)) c.push_reserved.ensures.items
          ∙ told_more kept was.index was.number copy was.list.items (notices_from c.args.before (drop c.args.first kept)) got was.invariant.told;
      number = omega (arith, was.invariant.number);
      capacity = omega (arith, c.push_reserved.ensures.capacity, was.invariant.capacity);
      count = omega (arith, count, was.invariant.count);
    }

-- One more range.
use Rattle.std.proofs.Common.{◌+◌, ◌++◌, ◌∷◌, [], length, sym, ap, ◌∙◌, arith}
use Rattle.std.proofs.lemmas.List.{length_push}
use Rattle.std.proofs.lemmas.List.FromFn.{map-range_with_len_more}
use Rattle.pn_tablet.specs.Layouts.{tablet_ends}
use Rattle.pn_apply.proofs.reducing.ranges_of.Goals as goal

pub loop-tablet-preserved : goal.loop-tablet-preserved
loop-tablet-preserved c =
    let was = c.loop-tablet in
    let grown = c.push_reserved.ensures.items in
    record {
      found = grown ∙ (λ i. was.invariant.found i ++ c.in_ok-range_of.ensures i ∷ []) ∙ sym (map-range_with_len_more (tablet_ends c.args.layout.now) 0 was.tablet was.tablet (omega arith));
      count = ap length grown ∙ length_push was.found.items c.in_ok-range_of.field-0 ∙ ap (λ n. n + 1) was.invariant.count;
      capacity = c.push_reserved.ensures.capacity ∙ was.invariant.capacity;
    }

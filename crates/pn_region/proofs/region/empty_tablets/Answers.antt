-- One more empty tablet.
use Rattle.std.proofs.Common.{◌+◌, length, ap, ◌∙◌}
use Rattle.std.proofs.lemmas.List.{length_push}
use Rattle.pn_region.proofs.RoundSteps.{empty_more}
use Rattle.pn_region.proofs.region.empty_tablets.Goals as goal

pub loop-tablet-preserved : goal.loop-tablet-preserved
loop-tablet-preserved c =
    let was = c.loop-tablet in
    let grown = c.push_reserved.ensures.items in
    record {
      empty = grown ∙ empty_more c.args.layout.now was.tablet was.tablets.items c.new.result c.in_ok-range_of.field-0 was.invariant.empty c.new.ensures c.in_ok-range_of.ensures;
      count = ap length grown ∙ length_push was.tablets.items c.new.result ∙ ap (λ n. n + 1) was.invariant.count;
      capacity = c.push_reserved.ensures.capacity ∙ was.invariant.capacity;
    }

-- One more tablet that is made of the old ones.
use Rattle.std.proofs.Common.{◌+◌, length, ap, ◌∙◌}
use Rattle.std.proofs.lemmas.List.{length_push}
use Rattle.pn_region.specs.Recovery.{made_of}
use Rattle.pn_region.proofs.RoundSteps.{range_more}
use Rattle.pn_region.proofs.region.relayout.build_tablets.Goals as goal

pub loop-tablet-preserved : goal.loop-tablet-preserved
loop-tablet-preserved c =
    let was = c.loop-tablet in
    let grown = c.push_reserved.ensures.items in
    let one = c.in_ok-build_tablet.field-0 in
    record {
      made = grown ∙ range_more (made_of c.args.tablets.now) c.args.layout.now was.tablet was.made.items one was.invariant.made (c.in_ok-build_tablet.ensures ∙ ap (made_of c.args.tablets.now) c.in_ok-range_of.ensures);
      count = ap length grown ∙ length_push was.made.items one ∙ ap (λ n. n + 1) was.invariant.count;
      capacity = c.push_reserved.ensures.capacity ∙ was.invariant.capacity;
    }

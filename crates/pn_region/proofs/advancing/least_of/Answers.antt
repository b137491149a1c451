-- The least with the cover of one more tablet.
use Rattle.std.proofs.Common.{IsTrue, sym, ap, ◌∙◌, subst}
use Rattle.pn_region.proofs.Common.{Positions, are_positions}
use Rattle.pn_region.proofs.Advanced.{least_step}
use Rattle.pn_region.proofs.PartMarks.{with_own, least_positions}
use Rattle.pn_region.proofs.advancing.least_of.Goals as goal

pub loop-tablet-preserved : goal.loop-tablet-preserved
loop-tablet-preserved g c =
    let was = c.loop-tablet in
    let t = c.tablet-item.result in
    let one = c.in_ok-least_with.ensures ∙ ap (with_own was.least) c.cover.ensures.cover in
    record {
      least = least_step g.T.Covered.tablet c.args.tablets.now was.tablet-index t was.least c.in_ok-least_with.field-0 c.loop-tablet-test.true c.tablet-item.is was.invariant.least one;
      positions = subst (λ (marks : Positions). IsTrue (are_positions marks)) (sym one) (least_positions was.least (g.T.Covered.tablet t).cover was.invariant.positions c.cover.ensures.positions);
    }

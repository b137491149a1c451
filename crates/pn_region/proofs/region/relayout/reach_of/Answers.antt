-- The greatest with the reach of one more part.
use Rattle.std.proofs.Common.{◌+◌, List, take, IsTrue, sym, ap, ◌∙◌, subst}
use Rattle.pn_join.proofs.MarksFacts.{are_positions-raised_marks}
use Rattle.pn_tablet.specs.Tablets.{TabletStateValue}
use Rattle.pn_region.specs.Recovery.{parts_of, least_cover, greatest_reach}
use Rattle.pn_region.proofs.Common.{Positions, Reaches, are_positions}
use Rattle.pn_region.proofs.PartMarks.{reach_step, reached_step, skipped}
use Rattle.pn_region.proofs.region.relayout.reach_of.Goals as goal
use Rattle.pn_region.proofs.region.relayout.reach_of.Goals.{then-is_part+in_ok-raise_to, else-is_part}

pub loop-tablet-preserved : goal.loop-tablet-preserved
loop-tablet-preserved c =
    let t = c.tablet-item.result in
    let range = c.args.range.now in
    let was = c.loop-tablet in
    let found = sym c.is_part.ensures.part in
    elim c.if-is_part.branch [
      | then-is_part+in_ok-raise_to w ↦
          let meets = found ∙ w.if-is_part.true in
          let one = w.reach-is ∙ w.in_ok-raise_to.ensures.ok in
          record {
            reach = reach_step range c.args.tablets.now was.tablet-index t c.loop-tablet-test.true c.tablet-item.is was.reach c.if-is_part.reach meets was.invariant.reach one;
            positions = subst (λ (marks : Positions). IsTrue (are_positions marks)) (sym one) (are_positions-raised_marks was.reach t.reach was.invariant.positions w.in_ok-raise_to.ensures.positions);
            reached = reached_step range c.args.tablets.now was.tablet-index t c.loop-tablet-test.true c.tablet-item.is was.reach c.if-is_part.reach meets was.invariant.reach one w.in_ok-raise_to.ensures.reached;
          }
      | else-is_part w ↦
          let same = sym (skipped range c.args.tablets.now was.tablet-index t c.loop-tablet-test.true c.tablet-item.is (found ∙ w.if-is_part.false)) in
          record {
            reach = w.reach-is ∙ was.invariant.reach ∙ ap greatest_reach same;
            positions = subst (λ (marks : Positions). IsTrue (are_positions marks)) (sym w.reach-is) was.invariant.positions;
            reached = subst (λ (marks : Positions). Reaches marks (least_cover (parts_of (take (was.tablet-index + 1) c.args.tablets.now) range))) (sym w.reach-is) (subst (λ (parts : List TabletStateValue). Reaches was.reach (least_cover parts)) same was.invariant.reached);
          }
    ]

-- The least with the cover of one more part.
use Rattle.std.proofs.Common.{[], Option, unwrap_or, IsTrue, sym, ap, ◌∙◌, subst}
use Rattle.pn_region.proofs.Common.{Positions, are_positions}
use Rattle.pn_region.proofs.PartMarks.{with_own, least_so_far, least_positions, cover_step, skipped}
use Rattle.pn_region.proofs.region.relayout.cover_of.Goals as goal
use Rattle.pn_region.proofs.region.relayout.cover_of.Goals.{then-is_part+in_ok-least_with, else-is_part}

pub loop-tablet-preserved : goal.loop-tablet-preserved
loop-tablet-preserved c =
    let t = c.tablet-item.result in
    let range = c.args.range.now in
    let own = c.loop-tablet.least in
    let found = sym c.is_part.ensures.part in
    elim c.if-is_part.branch [
      | then-is_part+in_ok-least_with w ↦
          let one = w.in_ok-least_with.ensures ∙ ap (with_own own) w.cover.ensures.cover in
          record {
            least = w.least-is
                ∙ cover_step range c.args.tablets.now c.loop-tablet.tablet-index t c.loop-tablet-test.true c.tablet-item.is own w.in_ok-least_with.field-0 (found ∙ w.if-is_part.true) c.loop-tablet.invariant.least one;
            positions = subst (λ (o : Option Positions). IsTrue (are_positions (unwrap_or o []))) (sym w.least-is)
                (subst (λ (marks : Positions). IsTrue (are_positions marks)) (sym one) (least_positions own t.cover c.loop-tablet.invariant.positions w.cover.ensures.positions));
          }
      | else-is_part w ↦ record {
        least = w.least-is ∙ c.loop-tablet.invariant.least
            ∙ ap least_so_far (sym (skipped range c.args.tablets.now c.loop-tablet.tablet-index t c.loop-tablet-test.true c.tablet-item.is (found ∙ w.if-is_part.false)));
        positions = subst (λ (o : Option Positions). IsTrue (are_positions (unwrap_or o []))) (sym w.least-is) c.loop-tablet.invariant.positions;
      }
    ]

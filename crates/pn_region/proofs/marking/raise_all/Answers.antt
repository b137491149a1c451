-- The marks after one batch more.
use Rattle.std.proofs.Common.{[], ◌∷◌, sym, ap, ◌∙◌}
use Rattle.pn_region.proofs.Common.{Positions, with_deliveries}
use Rattle.pn_region.proofs.Following.{batch_more}
use Rattle.pn_region.proofs.marking.raise_all.Goals as goal

pub loop-delivery-preserved : goal.loop-delivery-preserved
loop-delivery-preserved g c =
    let f = g.B.Batch.delivery in
    let was = c.loop-delivery in
    let d = c.delivery-item.result in
    record {
      followed = c.in_ok-raise_by.ensures.ok
          ∙ ap (λ (ms : Positions). with_deliveries ms (f d ∷ [])) was.invariant.followed
          ∙ sym (batch_more f c.args.marks.now c.args.deliveries.now was.delivery-index d c.loop-delivery-test.true c.delivery-item.is);
      positions = c.in_ok-raise_by.ensures.positions;
    }

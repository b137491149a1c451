-- One batch more may take the stream on.
use Rattle.std.proofs.Common.{max, unwrap_or, map, take, sym, ap, ◌∙◌}
use Rattle.pn_region.proofs.Common.{Positions, position_of, with_deliveries}
use Rattle.pn_region.proofs.Following.{batch_more, mark_more}
use Rattle.pn_region.proofs.marking.mark_after.Goals as goal

pub loop-delivery-preserved : goal.loop-delivery-preserved
loop-delivery-preserved g c =
    let f = g.B.Batch.delivery in
    let was = c.loop-delivery in
    let d = c.delivery-item.result in
    let ds = c.args.deliveries.now in
    let m = c.args.marks.now in
    let name = c.args.stream.now in
    let last = c.unwrap_or.ensures ∙ ap (λ o. unwrap_or o 0) c.last_of_stream.ensures in
    c.max-mark.ensures
    ∙ (λ i. max (was.invariant i) (last i))
    ∙ sym (mark_more (with_deliveries m (map f (take was.delivery-index ds))) (f d) name)
    ∙ ap (λ (ms : Positions). position_of ms name) (sym (batch_more f m ds was.delivery-index d c.loop-delivery-test.true c.delivery-item.is))

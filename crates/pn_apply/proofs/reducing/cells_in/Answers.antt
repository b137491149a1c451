-- The next share joins its part.
use Rattle.std.proofs.Common.{List, take, sym, subst, arith}
use Rattle.std.proofs.lemmas.List.{take_all}
use Rattle.pn_record.specs.Cells.{Holds}
use Rattle.pn_record.proofs.CellMaps.{held_table}
use Rattle.pn_stream.specs.Brokers.{DeliveryValue}
use Rattle.pn_apply.specs.Reducing.{all_images, images_in}
use Rattle.pn_apply.proofs.Tables.{images_more}
use Rattle.pn_apply.proofs.reducing.cells_in.Goals as goal

pub loop-share-preserved : goal.loop-share-preserved
loop-share-preserved c =
    let was = c.loop-share in
    let range = c.args.range.now in
    let shares = c.args.shares.now in
    record {
      held = subst (Holds c.join_part.new.cells) (sym (images_more range shares was.share-index c.share-item.result c.loop-share-test.true c.share-item.is))
          (c.in_ok-join_part.ensures.held (images_in range (all_images (take was.share-index shares))) was.invariant.held);
      rising = c.in_ok-join_part.ensures.rising;
    }

pub returns : goal.returns
returns c =
    let was = c.loop-share in
    let shares = c.args.shares.now in
    held_table was.cells (images_in c.args.range.now (all_images shares)) was.invariant.rising
    (subst (λ (ds : List DeliveryValue). Holds was.cells (images_in c.args.range.now (all_images ds))) (take_all was.share-index shares (omega (arith, c.loop-share-test.false))) was.invariant.held)

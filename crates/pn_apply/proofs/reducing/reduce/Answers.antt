-- The joins of the cells in the ranges are those of the tablets.
use denote.Param.Send.{sendable}
use Rattle.std.proofs.Crossing.{crosses}
use Rattle.std.proofs.Common.{◌≡◌, Vec, map, ap, ◌∙◌}
use Rattle.std.specs.declared.alloc.Global.{Global}
use Rattle.std.proofs.lemmas.Result.{IfOk-weaker}
use Rattle.pn_tablet.specs.declared.state.TabletOp.{TabletOp}
use Rattle.pn_apply.specs.Reducing.{all_images, join_in, joins_of}
use Rattle.pn_apply.proofs.Applied.{each_range, joins_made}
use Rattle.pn_apply.proofs.Crossing.{share_sync}
use Rattle.pn_apply.proofs.reducing.reduce.Goals as goal

pub work_all-requires-sync-W : goal.work_all-requires-sync-W
work_all-requires-sync-W g c κs within = search (sendable, crosses, share_sync) depth 40 fits 20000

pub work_all-requires-clause-fit : goal.work_all-requires-clause-fit
work_all-requires-clause-fit g c κs within = each_range 0 c.as_mut_slice.result.now

pub returns : goal.returns
returns g c =
    let marks = c.args.marks.now in
    let images = all_images c.args.shares.now in
    let made = joins_made marks images 0 c.as_mut_slice.result.now _ c.in_ok-cells.ensures.made in
    IfOk-weaker c.joins.result _ (λ (operations : Vec TabletOp Global). operations.items ≡ joins_of c.args.layout.now marks images)
    (λ operations is. is ∙ made ∙ ap (map (join_in marks images)) (c.as_mut_slice.ensures.value ∙ c.in_ok-ranges.ensures)) c.joins.ensures

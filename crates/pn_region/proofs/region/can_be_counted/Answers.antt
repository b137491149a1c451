-- All joins are counted.
use Rattle.std.proofs.Common.{ℕ, ◌<◌, ◌^◌, List, length, ap, ◌∙◌, subst}
use Rattle.std.proofs.lemmas.List.{take_all}
use Rattle.pn_region.proofs.Common.{flat_map, TabletOp, joined_cells}
use Rattle.pn_region.proofs.region.can_be_counted.Goals as goal

pub returns : goal.returns
returns c =
    λ yes. subst (λ (n : ℕ). n < 2 ^ 64)
    (c.loop-join.invariant.counted ∙ ap (λ (joins : List TabletOp). length (flat_map joined_cells joins)) (take_all c.loop-join.join-index c.args.joins.now c.loop-join-test.false))
    c.loop-join.invariant.fits

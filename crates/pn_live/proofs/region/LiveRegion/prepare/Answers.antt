-- What the deliveries bring to the tablets of a live region.
use Rattle.std.proofs.Common.{List, map, sym, ◌∙◌, subst}
use Rattle.pn_apply.specs.Applying.{AreJoinsIn, HavePositions}
use Rattle.pn_apply.specs.Reducing.{all_images}
use Rattle.pn_apply.proofs.ReduceLaws.{joins_have_positions}
use Rattle.pn_live.specs.LiveRegions.{LiveRegionValue}
use Rattle.pn_live.specs.PublishedTablets.{PublishedTabletValue, state_at}
use Rattle.pn_live.proofs.Rounds.{fit_live}
use Rattle.pn_live.proofs.region.LiveRegion.prepare.Goals as goal

pub plan_round-requires-clause-joins : goal.plan_round-requires-clause-joins
plan_round-requires-clause-joins g c κs within =
    let inside = c.self.inside in
    let old : LiveRegionValue = record { layout = inside.layout; tablets = inside.tablets.items; marks = inside.marks; log = inside.log; order = inside.order } in
    let found = c.deref.ensures.value ∙ c.in_ok-operations.ensures in
    subst (λ (ps : List PublishedTabletValue). AreJoinsIn (map state_at ps) c.deref.result.now) (sym c.as_mut_slice.ensures.value)
    (fit_live old c.args.shares.now c.self.invariant.is_region c.in_ok-marks.marks c.deref.result.now found)

pub plan_round-requires-clause-positions : goal.plan_round-requires-clause-positions
plan_round-requires-clause-positions g c κs within =
    let found = c.deref.ensures.value ∙ c.in_ok-operations.ensures in
    subst HavePositions (sym found) (joins_have_positions c.self.inside.layout c.in_ok-marks.marks (all_images c.args.shares.now) c.in_ok-marks.ensures.positions)

pub returns-clause-joins : goal.returns-clause-joins
returns-clause-joins g c =
    let inside = c.self.inside in
    let old : LiveRegionValue = record { layout = inside.layout; tablets = inside.tablets.items; marks = inside.marks; log = inside.log; order = inside.order } in
    let ops = c.in_ok-operations.operations.items in (
      subst (λ (l : LiveRegionValue). AreJoinsIn (map state_at l.tablets) ops) c.self.view_is
          (fit_live old c.args.shares.now c.self.invariant.is_region c.in_ok-marks.marks ops c.in_ok-operations.ensures),
      subst HavePositions (sym c.in_ok-operations.ensures) (joins_have_positions inside.layout c.in_ok-marks.marks (all_images c.args.shares.now) c.in_ok-marks.ensures.positions),
    )

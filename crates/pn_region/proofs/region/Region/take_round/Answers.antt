-- What a round leaves.
use Rattle.std.proofs.Common.{List, [], length, refl, sym, ap, ◌∙◌, subst, arith}
use Rattle.std.specs.Vec.{with_items}
use Rattle.std.proofs.lemmas.List.{with_items_is}
use Rattle.pn_stream.proofs.Runs.{passed_on}
use Rattle.pn_apply.specs.Applying.{HavePositions, IsSomeOld}
use Rattle.pn_apply.proofs.Turns.{on_err}
use Rattle.pn_apply.proofs.ReduceLaws.{joins_have_positions}
use Rattle.pn_region.specs.Regions.{IsLawfulRegion}
use Rattle.pn_region.specs.Rounds.{round, Leaves}
use Rattle.pn_region.proofs.Common.{flat_map, TabletStateValue, changes, Change, all_changes, all_images, LoggedRegion, RegionValue, IsRegion, all_cells, Memory}
use Rattle.pn_region.proofs.GapLaws.{themselves}
use Rattle.pn_region.proofs.RoundSteps.{tablet_count}
use Rattle.pn_region.proofs.RoundEnds.{few_found, one_left, same_left, half_left, half_region, new_region_is, round_ok, told_changes, fit_found, half_found, all_found, told_found, err_as, whatever}
use Rattle.pn_region.proofs.region.Region.take_round.Goals as goal

pub returns-in_err-marks-clause-err : goal.returns-in_err-marks-clause-err
returns-in_err-marks-clause-err g c = whatever c.from_residual.result _ (same_left c.args.self.now.state c.args.shares.now (subst IsRegion (ap (λ (r : LoggedRegion). r.state) c.self.view_is) c.self.invariant.is_region))

pub returns-in_err-operations-clause-err : goal.returns-in_err-operations-clause-err
returns-in_err-operations-clause-err g c = whatever c.from_residual-in_err-operations.result _ (same_left c.args.self.now.state c.args.shares.now (subst IsRegion (ap (λ (r : LoggedRegion). r.state) c.self.view_is) c.self.invariant.is_region))

pub take_joins-requires-clause-joins : goal.take_joins-requires-clause-joins
take_joins-requires-clause-joins g c κs within =
    let found = c.deref.ensures.value ∙ c.in_ok-operations.ensures in
    fit_found _ c.args.shares.now c.self.invariant.is_region c.in_ok-marks.marks c.as_mut_slice-tablets.result.now [] c.deref.result.now c.as_mut_slice-tablets.ensures.value found

pub take_joins-requires-clause-positions : goal.take_joins-requires-clause-positions
take_joins-requires-clause-positions g c κs within =
    let inside = c.self.inside in
    let found = c.deref.ensures.value ∙ c.in_ok-operations.ensures in
    subst HavePositions (sym found) (joins_have_positions inside.layout c.in_ok-marks.marks (all_images c.args.shares.now) c.in_ok-marks.ensures.positions)

pub take_joins-requires-clause-some : goal.take_joins-requires-clause-some
take_joins-requires-clause-some g c =
    let inside = c.self.inside in
    let count = tablet_count inside.marks inside.layout inside.tablets.items c.self.invariant.is_region.tablets in
    omega (arith, count, ap (λ (ts : List TabletStateValue). length ts) c.as_mut_slice-tablets.ensures.value)

pub take_joins-requires-clause-few : goal.take_joins-requires-clause-few
take_joins-requires-clause-few g c κs within =
    let found = c.deref.ensures.value ∙ c.in_ok-operations.ensures in
    few_found _ c.args.shares.now c.self.invariant.is_region c.in_ok-marks.marks c.as_mut_slice-tablets.result.now [] c.deref.result.now c.as_mut_slice-tablets.ensures.value found

pub returns-in_err-marks-clause-left : goal.returns-in_err-marks-clause-left
returns-in_err-marks-clause-left g c = on_err c.from_residual.result (one_left c.args.self.now.state (subst IsRegion (ap (λ (r : LoggedRegion). r.state) c.self.view_is) c.self.invariant.is_region))

pub returns-in_err-operations-clause-left : goal.returns-in_err-operations-clause-left
returns-in_err-operations-clause-left g c = on_err c.from_residual-in_err-operations.result (one_left c.args.self.now.state (subst IsRegion (ap (λ (r : LoggedRegion). r.state) c.self.view_is) c.self.invariant.is_region))

pub returns-in_err-lists-clause-left : goal.returns-in_err-lists-clause-left
returns-in_err-lists-clause-left g c =
    let inside = c.self.inside in
    let us = c.take_joins.new.tablets in
    let same = with_items_is inside.tablets us (omega (arith, c.take_joins.auto.tablets, c.as_mut_slice-tablets.ensures.len)) in
    on_err c.from_residual-in_err-lists.result
    (subst (λ (ts : List TabletStateValue). IsSomeOld c.args.self.now.state.tablets ts) (sym same)
    (subst (λ (ts : List TabletStateValue). IsSomeOld ts us) (c.as_mut_slice-tablets.ensures.value ∙ ap (λ (r : LoggedRegion). r.state.tablets) c.self.view_is) c.in_err-lists.ensures.left))

pub invariant_of-self : goal.invariant_of-self
invariant_of-self g c =
    let inside = c.self.inside in
    let us = c.take_joins.new.tablets in
    let marks = c.in_ok-marks.marks in
    let found = c.deref.ensures.value ∙ c.in_ok-operations.ensures in
    let same = with_items_is inside.tablets us (omega (arith, c.take_joins.auto.tablets, c.as_mut_slice-tablets.ensures.len)) in
    subst (λ (ts : List TabletStateValue). IsLawfulRegion (record { layout = inside.layout; tablets = ts; marks = inside.marks })) (sym same)
    (record {
      is_region = half_region _ c.args.shares.now c.self.invariant.is_region marks us
          (half_found _ c.args.shares.now c.self.invariant.is_region marks c.as_mut_slice-tablets.result.now us c.deref.result.now c.as_mut_slice-tablets.ensures.value found c.in_err-lists.ensures.err);
      are_marks = c.self.invariant.are_marks;
    })

pub returns-in_err-lists-clause-err : goal.returns-in_err-lists-clause-err
returns-in_err-lists-clause-err g c =
    let inside = c.self.inside in
    let old : RegionValue = record { layout = inside.layout; tablets = inside.tablets.items; marks = inside.marks } in
    let deliveries = c.args.shares.now in
    let us = c.take_joins.new.tablets in
    let marks = c.in_ok-marks.marks in
    let found = c.deref.ensures.value ∙ c.in_ok-operations.ensures in
    let accepted = themselves inside.marks deliveries ∙ c.in_ok-marks.ensures.ok in
    let same = with_items_is inside.tablets us (omega (arith, c.take_joins.auto.tablets, c.as_mut_slice-tablets.ensures.len)) in
    err_as old c.args.self.now.state deliveries c.from_residual-in_err-lists.result _ (ap (λ (r : LoggedRegion). r.state) c.self.view_is)
    (passed_on c.from_residual-in_err-lists.result Memory _ c.from_residual-in_err-lists.ensures.1
    (subst (λ (ts : List TabletStateValue). Leaves Memory old deliveries (record { layout = inside.layout; tablets = ts; marks = inside.marks })) (sym same)
    (half_left old deliveries c.self.invariant.is_region marks us accepted
    (half_found old deliveries c.self.invariant.is_region marks c.as_mut_slice-tablets.result.now us c.deref.result.now c.as_mut_slice-tablets.ensures.value found c.in_err-lists.ensures.err))))

pub invariant_of-self-2 : goal.invariant_of-self-2
invariant_of-self-2 g c =
    let inside = c.self.inside in
    let us = c.take_joins.new.tablets in
    let marks = c.in_ok-marks.marks in
    let found = c.deref.ensures.value ∙ c.in_ok-operations.ensures in
    let same = with_items_is inside.tablets us (omega (arith, c.take_joins.auto.tablets, c.as_mut_slice-tablets.ensures.len)) in
    subst (λ (ts : List TabletStateValue). IsLawfulRegion (record { layout = inside.layout; tablets = ts; marks = marks })) (sym same)
    (record {
      is_region = new_region_is _ c.args.shares.now c.self.invariant.is_region marks us
          (all_found _ c.args.shares.now c.self.invariant.is_region marks c.as_mut_slice-tablets.result.now us c.deref.result.now c.as_mut_slice-tablets.ensures.value found c.in_ok-lists.ensures.ok);
      are_marks = record { few = c.in_ok-marks.ensures.few; positions = c.in_ok-marks.ensures.positions };
    })

pub returns-clause-ok : goal.returns-clause-ok
returns-clause-ok g c =
    let inside = c.self.inside in
    let deliveries = c.args.shares.now in
    let us = c.take_joins.new.tablets in
    let marks = c.in_ok-marks.marks in
    let found = c.deref.ensures.value ∙ c.in_ok-operations.ensures in
    let accepted = themselves inside.marks deliveries ∙ c.in_ok-marks.ensures.ok in
    let same = with_items_is inside.tablets us (omega (arith, c.take_joins.auto.tablets, c.as_mut_slice-tablets.ensures.len)) in
    let taken = same ∙ all_found _ deliveries c.self.invariant.is_region marks c.as_mut_slice-tablets.result.now us c.deref.result.now c.as_mut_slice-tablets.ensures.value found c.in_ok-lists.ensures.ok in
    ap (λ (r : RegionValue). round r deliveries) (sym (ap (λ (r : LoggedRegion). r.state) c.self.view_is))
    ∙ round_ok _ deliveries c.self.invariant.is_region marks (with_items inside.tablets us).items accepted taken

pub returns-clause-changes : goal.returns-clause-changes
returns-clause-changes g c =
    let inside = c.self.inside in
    let deliveries = c.args.shares.now in
    let us = c.take_joins.new.tablets in
    let marks = c.in_ok-marks.marks in
    let found = c.deref.ensures.value ∙ c.in_ok-operations.ensures in
    let same = with_items_is inside.tablets us (omega (arith, c.take_joins.auto.tablets, c.as_mut_slice-tablets.ensures.len)) in
    let taken = same ∙ all_found _ deliveries c.self.invariant.is_region marks c.as_mut_slice-tablets.result.now us c.deref.result.now c.as_mut_slice-tablets.ensures.value found c.in_ok-lists.ensures.ok in
    let all = flat_map (λ (list : List Change). list) (all_changes c.as_mut_slice-tablets.result.now c.deref.result.now) in
    let told = told_found _ deliveries c.self.invariant.is_region marks c.as_mut_slice-tablets.result.now us c.deref.result.now c.as_mut_slice-tablets.ensures.value found all refl in
    c.in_ok-lists.ensures.changes
    ∙ told_changes _ deliveries c.self.invariant.is_region marks (with_items inside.tablets us).items all taken told
    ∙ ap (λ (r : RegionValue). changes (all_cells r) (all_cells (record { layout = inside.layout; tablets = (with_items inside.tablets us).items; marks = marks }))) (ap (λ (r : LoggedRegion). r.state) c.self.view_is)

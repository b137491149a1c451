-- The tablet loses its records, and is never refused.
use Rattle.std.proofs.Common.{◌≡◌, length, refl, ap, ◌∙◌, arith}
use Rattle.pn_region.specs.Recovery.{after_loss}
use Rattle.pn_region.proofs.Common.{step, Lose, Ok, LoggedRegion, RegionValue}
use Rattle.pn_region.proofs.RoundSteps.{tablet_count, tablet_at}
use Rattle.pn_region.proofs.OneTablet.{now_is, now_lawful, where_ok}
use Rattle.pn_region.proofs.region.Region.lose.Goals as goal

pub index_mut-requires : goal.index_mut-requires
index_mut-requires c =
    let inside = c.self.inside in
    let count = tablet_count inside.marks inside.layout inside.tablets.items c.self.invariant.is_region.tablets in
    let layout = ap (λ (r : LoggedRegion). length r.state.layout) c.self.view_is in
    omega (arith, count, layout, c.requires, inside.tablets.ok.0)

pub invariant_of-self : goal.invariant_of-self
invariant_of-self c =
    let inside = c.self.inside in
    let old : RegionValue = record { layout = inside.layout; tablets = inside.tablets.items; marks = inside.marks } in
    let count = tablet_count inside.marks inside.layout inside.tablets.items c.self.invariant.is_region.tablets in
    let layout = ap (λ (r : LoggedRegion). length r.state.layout) c.self.view_is in
    let t = c.index_mut.result.now in
    now_lawful old c.args.tablet Lose t c.apply.new.self (tablet_at inside.tablets.items c.args.tablet t (omega (arith, count, layout, c.requires)) c.index_mut.ensures.value)
    (where_ok c.apply.result (step t Lose ≡ Ok c.apply.new.self) (c.apply.ensures.lose refl) c.apply.ensures.ok) tt c.self.invariant

pub returns-clause-state : goal.returns-clause-state
returns-clause-state c =
    let inside = c.self.inside in
    let old : RegionValue = record { layout = inside.layout; tablets = inside.tablets.items; marks = inside.marks } in
    let count = tablet_count inside.marks inside.layout inside.tablets.items c.self.invariant.is_region.tablets in
    let layout = ap (λ (r : LoggedRegion). length r.state.layout) c.self.view_is in
    let t = c.index_mut.result.now in
    now_is old c.args.tablet Lose t c.apply.new.self (tablet_at inside.tablets.items c.args.tablet t (omega (arith, count, layout, c.requires)) c.index_mut.ensures.value)
    (where_ok c.apply.result (step t Lose ≡ Ok c.apply.new.self) (c.apply.ensures.lose refl) c.apply.ensures.ok)
    ∙ ap (λ (r : RegionValue). after_loss r c.args.tablet) (ap (λ (r : LoggedRegion). r.state) c.self.view_is)

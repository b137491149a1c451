-- A state that lacks nothing takes the operation at once.
use Rattle.std.proofs.Common.{◌≡◌, sym, ap, ◌∙◌, subst}
use Rattle.std.specs.Prelude.{Option, IfSome}
use Rattle.pn_tablet.specs.Tablets.{TabletStateValue}
use Rattle.pn_tablet.specs.declared.state.TabletOp.{TabletOp}
use Rattle.pn_live.specs.Attempts.{TakesJoin, caught_up}
use Rattle.pn_live.proofs.Appending.{Applies, applies_as}
use Rattle.pn_live.proofs.live_tablet.state_draft.apply_to.Goals as goal

pub returns-in-None : goal.returns-in-None
returns-in-None c =
    let old = c.args.state.now in
    let new = c.apply.new.self in
    let left = c.take.new.self in
    let was : caught_up old c.args.lacks.now ≡ old = ap (caught_up old) (sym c.take.ensures.value ∙ c.in-None.is) in
    let now : caught_up new left ≡ new = ap (caught_up new) c.take.ensures.after in
    let done = c.apply.ensures in
    let applies = applies_as old new _ _ c.args.op.now c.apply.result was now (record { ok = done.ok; changes = done.changes; refused = done.refused; err = done.err }) in
    record {
      ok = applies.ok;
      changes = applies.changes;
      refused = applies.refused;
      err = applies.err;
      takes = subst (λ (lacks : Option TabletOp). IfSome lacks (λ join. TakesJoin new join)) (sym c.take.ensures.after) tt;
    }

pub returns-in-Some : goal.returns-in-Some
returns-in-Some c =
    let old = c.args.state.now in
    let new = caught_up c.apply_both.new.state c.apply_both.new.lacks in
    let was = ap (caught_up old) (sym c.take.ensures.value ∙ c.in-Some.is) in
    let done = c.apply_both.ensures in
    let applies = subst (λ (t : TabletStateValue). Applies t new c.args.op.now c.apply_both.result) (sym was) (record { ok = done.ok; changes = done.changes; refused = done.refused; err = done.err }) in
    record { ok = applies.ok; changes = applies.changes; refused = applies.refused; err = applies.err; takes = done.takes }

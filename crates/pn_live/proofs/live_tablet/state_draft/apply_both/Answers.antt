-- After a join a state takes and refuses what it did before it.
use Rattle.std.proofs.Common.{◌≡◌, sym, ap, subst, Err}
use Rattle.std.specs.Prelude.{Option, IfSome, IsOk, MatchOption}
use Rattle.pn_tablet.specs.Steps.{Refuses, step, tablet_after, is_memory}
use Rattle.pn_tablet.specs.Tablets.{TabletStateValue}
use Rattle.pn_tablet.specs.declared.fault.OpFault.{OpFault}
use Rattle.pn_tablet.specs.declared.state.TabletOp.{TabletOp}
use Rattle.pn_live.specs.Attempts.{TakesJoin, caught_up}
use Rattle.pn_live.proofs.Appending.{after_ok, applies_as, refused_after}
use Rattle.pn_live.proofs.live_tablet.state_draft.apply_both.Goals as goal

pub returns-in-Ok : goal.returns-in-Ok
returns-in-Ok c =
    let old = c.args.state.now in
    let caught = c.apply.new.self in
    let new = c.apply-in-Ok.new.self in
    let now : caught_up new c.args.lacks.now ≡ new = ap (caught_up new) c.requires.none in
    let done = c.apply-in-Ok.ensures in
    let applies = applies_as caught new (tablet_after old c.args.join) _ c.args.op.now c.apply-in-Ok.result (after_ok old caught c.args.join c.in-Ok.ensures.ok) now
    (record { ok = done.ok; changes = done.changes; refused = done.refused; err = done.err }) in
    record {
      ok = applies.ok;
      changes = applies.changes;
      refused = applies.refused;
      err = applies.err;
      takes = subst (λ (lacks : Option TabletOp). IfSome lacks (λ join. TakesJoin new join)) (sym c.requires.none) tt;
    }

pub returns-in-Err : goal.returns-in-Err
returns-in-Err c =
    let old = c.args.state.now in
    let new = c.apply.new.self in
    let join = c.args.join in
    let op = c.args.op.now in
    let same : new ≡ old = c.in-Err.ensures.err in
    let found = c.refusal.result in
    let right = subst (λ (t : TabletStateValue). MatchOption found (IsOk (step t op)) (λ fault. step t op ≡ Err fault)) same c.refusal.ensures in
    record {
      ok = tt;
      changes = tt;
      refused = subst (λ (fault : OpFault). Refuses is_memory fault (step (tablet_after old join) op)) (sym c.unwrap_or-fault.ensures) (refused_after old join op found c.requires.takes.join right);
      err = ap (λ (t : TabletStateValue). tablet_after t join) same;
      takes = subst (λ (t : TabletStateValue). TakesJoin t join) (sym same) c.requires.takes;
    }

-- One copy more is adopted, and once none is left the marks advance.
use Rattle.std.proofs.Common.{◌≡◌, ◌∷◌, [], List, length, sym, ap, subst, ◌∙◌, arith}
use Rattle.std.specs.Vec.Iter.{into_iter_items}
use Rattle.pn_tablet.specs.Copies.{TabletCopyValue}
use Rattle.pn_live.specs.LiveRegions.{core, StopsAt}
use Rattle.pn_live.specs.declared.fault.StartFault.TheVariants.{Adopt as NotAdopted, Advance}
use Rattle.pn_live.proofs.Events.{LeadOn, StopOn, at_last, not_adopted, one_more, one_stop}
use Rattle.pn_live.proofs.Appending.{nothing_left}
use Rattle.pn_live.proofs.region.LiveRegion.start_from.Goals as goal

pub loop-copy-preserved : goal.loop-copy-preserved
loop-copy-preserved g c =
    let at = c.loop-copy in
    let left = into_iter_items c.next.new.self in
    let steps : into_iter_items at.copy-iterator ≡ c.in-Some.copy ∷ left = c.in-Some.ensures.steps.0 in
    record {
      on = one_more c.in-Some.copy left c.args.copies.items at.self c.adopt_one.new.self c.args.self.now c.in-Ok.ensures.ok
          (subst (λ (copies : List TabletCopyValue). LeadOn copies at.self c.args.copies.items c.args.self.now) steps at.invariant.on);
      stop = one_stop c.in-Some.copy left c.args.copies.items at.self c.adopt_one.new.self c.args.self.now c.in-Ok.ensures.ok
          (subst (λ (copies : List TabletCopyValue). StopOn copies at.self c.args.copies.items c.args.self.now) steps at.invariant.stop);
      same = c.adopt_one.ensures.same ∙ at.invariant.same;
      left = omega (arith, at.invariant.left, c.in-Some.ensures.steps.1, ap length steps);
    }

pub returns-in-Err-clause-refused : goal.returns-in-Err-clause-refused
returns-in-Err-clause-refused g c =
    let at = c.loop-copy in
    let left = into_iter_items c.next.new.self in
    let steps : into_iter_items at.copy-iterator ≡ c.in-Some.copy ∷ left = c.in-Some.ensures.steps.0 in
    at.invariant.stop (NotAdopted c.in-Err.fault)
    (subst (λ (copies : List TabletCopyValue). StopsAt copies (core at.self) (NotAdopted c.in-Err.fault)) (sym steps) (not_adopted c.in-Some.copy left at.self c.in-Err.fault c.in-Err.ensures.refused))

pub returns-in-Ok-advance-clause-ok : goal.returns-in-Ok-advance-clause-ok
returns-in-Ok-advance-clause-ok g c =
    let at = c.loop-copy in
    let none : into_iter_items at.copy-iterator ≡ [] = nothing_left (into_iter_items at.copy-iterator) (sym at.invariant.left ∙ c.in-None.ensures.steps.0) in
    at_last c.args.copies.items at.self c.advance.new.self c.args.self.now c.in-Ok-advance.ensures.ok
    (subst (λ (copies : List TabletCopyValue). LeadOn copies at.self c.args.copies.items c.args.self.now) none at.invariant.on)

pub returns-in-Err-advance-clause-refused : goal.returns-in-Err-advance-clause-refused
returns-in-Err-advance-clause-refused g c =
    let at = c.loop-copy in
    let none : into_iter_items at.copy-iterator ≡ [] = nothing_left (into_iter_items at.copy-iterator) (sym at.invariant.left ∙ c.in-None.ensures.steps.0) in
    at.invariant.stop (Advance c.in-Err-advance.fault)
    (subst (λ (copies : List TabletCopyValue). StopsAt copies (core at.self) (Advance c.in-Err-advance.fault)) (sym none) c.in-Err-advance.ensures.refused)

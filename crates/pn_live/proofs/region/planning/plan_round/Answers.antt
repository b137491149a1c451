-- What changed in all tablets together, and what the drafts became.
use Rattle.std.proofs.Common.{List, sym, ap, ◌∙◌, arith}
use Rattle.std.proofs.lemmas.List.{map-id, with_items_is}
use Rattle.std.specs.List.{flat_map}
use Rattle.pn_tablet.specs.Tablets.{TabletStateValue}
use Rattle.pn_tablet.specs.declared.change.Change.{Change}
use Rattle.pn_apply.specs.Applying.{all_changes, all_stepped}
use Rattle.pn_region.proofs.RoundSteps.{all_told}
use Rattle.pn_live.proofs.region.planning.plan_round.Goals as goal

pub returns-clause-changes : goal.returns-clause-changes
returns-clause-changes g c =
    let slots = c.as_mut_slice-slots.result.now in
    let operations = c.args.operations.now in
    all_told slots operations c.in_ok-lists.lists.items c.in_ok-lists.ensures.changes
    ∙ ap (λ (ts : List TabletStateValue). flat_map (λ (list : List Change). list) (all_changes ts operations)) (c.as_mut_slice-slots.ensures.value ∙ c.in_ok-drafts.ensures.drafts)

pub returns-clause-nexts : goal.returns-clause-nexts
returns-clause-nexts g c =
    let slots = c.as_mut_slice-slots.result.now in
    let us = c.apply_all.new.slots in
    let operations = c.args.operations.now in
    let whole = with_items_is c.in_ok-drafts.drafts us (omega (arith, c.apply_all.auto.slots, c.as_mut_slice-slots.ensures.len)) in
    c.in_ok-nexts.ensures ∙ whole ∙ sym (map-id us) ∙ c.in_ok-lists.ensures.ok
    ∙ ap (λ (ts : List TabletStateValue). all_stepped ts operations) (map-id slots ∙ c.as_mut_slice-slots.ensures.value ∙ c.in_ok-drafts.ensures.drafts)

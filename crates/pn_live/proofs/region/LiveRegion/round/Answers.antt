-- The shares stand for the deliveries; before they are joined, a refusal changes the log alone.
use Rattle.std.proofs.Common.{◌≡◌, List, sym, ap, ◌∙◌, subst, Ok}
use Rattle.std.specs.Prelude.{OnOk, IfErr}
use Rattle.pn_stream.specs.Brokers.{DeliveryValue}
use Rattle.pn_tablet.specs.Steps.{Refuses}
use Rattle.pn_region.specs.Log.{refused_log}
use Rattle.pn_region.specs.Rounds.{is_memory, round}
use Rattle.pn_region.specs.declared.fault.RoundFault.{RoundFault}
use Rattle.pn_live.specs.LiveRegions.{LiveRegionValue, core, tablets_after_round, tablets_in}
use Rattle.pn_live.proofs.region.LiveRegion.round.Goals as goal

pub returns-in-Ok-clause-ok : goal.returns-in-Ok-clause-ok
returns-in-Ok-clause-ok g c =
    let new = c.join_shares.new.self in
    subst (λ (ds : List DeliveryValue). OnOk c.join_shares.result (round (core c.args.self.now) ds ≡ Ok (core new))) (c.deref.ensures.value ∙ c.in-Ok.ensures.shares) c.join_shares.ensures.ok

pub returns-in-Ok-clause-published : goal.returns-in-Ok-clause-published
returns-in-Ok-clause-published g c =
    let new = c.join_shares.new.self in
    subst (λ (ds : List DeliveryValue). OnOk c.join_shares.result (new.tablets ≡ tablets_after_round c.args.self.now ds new.marks)) (c.deref.ensures.value ∙ c.in-Ok.ensures.shares) c.join_shares.ensures.published

pub returns-in-Ok-clause-refused : goal.returns-in-Ok-clause-refused
returns-in-Ok-clause-refused g c =
    subst (λ (ds : List DeliveryValue). IfErr c.join_shares.result (λ fault. Refuses is_memory fault (round (core c.args.self.now) ds))) (c.deref.ensures.value ∙ c.in-Ok.ensures.shares) c.join_shares.ensures.refused

pub returns-in-Err-clause-refused : goal.returns-in-Err-clause-refused
returns-in-Err-clause-refused g c =
    subst (λ (fault : RoundFault). Refuses is_memory fault (round (core c.args.self.now) c.args.deliveries.items)) (sym c.refuse.ensures.fault) c.in-Err.ensures.refused

pub returns-in-Err-clause-kept : goal.returns-in-Err-clause-kept
returns-in-Err-clause-kept g c =
    let was = c.args.self.now in
    let with_fault : RoundFault → LiveRegionValue = λ fault. record was { log = refused_log was.log fault } in
    c.refuse.ensures.kept ∙ ap with_fault (sym c.refuse.ensures.fault)

pub returns-in-Err-clause-same : goal.returns-in-Err-clause-same
returns-in-Err-clause-same g c = ap tablets_in c.refuse.ensures.kept

-- The first fault is the round's.
use Rattle.std.proofs.Common.{◌≡◌, map, sym, ap, ◌∙◌}
use Rattle.std.proofs.lemmas.List.{map-id}
use Rattle.pn_stream.specs.Brokers.{DeliveryValue}
use Rattle.pn_stream.proofs.Runs.{passed_on}
use Rattle.pn_region.specs.Rounds.{new_marks}
use Rattle.pn_region.specs.declared.fault.RoundFault.TheVariants.{Memory}
use Rattle.pn_region.proofs.GapLaws.{round_passes, round_refused}
use Rattle.pn_live.specs.LiveRegions.{LiveRegionValue, core}
use Rattle.pn_live.proofs.region.LiveRegion.shares_for.Goals as goal

pub returns-in_err-check_marks-clause-refused : goal.returns-in_err-check_marks-clause-refused
returns-in_err-check_marks-clause-refused c =
    let was = c.args.self.now in
    let deliveries = c.args.deliveries.items in
    let fault = c.in_err-check_marks.field-0.0 in
    let same : map (λ (d : DeliveryValue). d) c.deref.result.now ≡ deliveries = map-id c.deref.result.now ∙ c.deref.ensures.value in
    let marks = ap (λ (l : LiveRegionValue). new_marks l.marks deliveries) c.self.view_is in
    passed_on c.from_residual.result fault _ c.from_residual.ensures.1
    (round_refused (core was) deliveries fault (sym marks ∙ sym (ap (new_marks c.self.inside.marks) same) ∙ c.in_err-check_marks.ensures.refused))

pub returns-in_err-shares_of-clause-refused : goal.returns-in_err-shares_of-clause-refused
returns-in_err-shares_of-clause-refused c =
    let was = c.args.self.now in
    let deliveries = c.args.deliveries.items in
    let same : map (λ (d : DeliveryValue). d) c.deref.result.now ≡ deliveries = map-id c.deref.result.now ∙ c.deref.ensures.value in
    let marks = ap (λ (l : LiveRegionValue). new_marks l.marks deliveries) c.self.view_is in
    passed_on c.from_residual-in_err-shares_of.result Memory _ c.from_residual-in_err-shares_of.ensures.1
    (round_passes (core was) deliveries _ (sym marks ∙ sym (ap (new_marks c.self.inside.marks) same) ∙ c.in_ok-check_marks.ensures.ok))

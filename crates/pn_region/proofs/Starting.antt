-- Regions that start from copies, and what they take from there on.
use Rattle.std.proofs.Common.{◌≡◌, ℕ, zero, suc, List, [], ◌∷◌, ◌++◌, map, Ok, Err, refl, sym, ap, subst, arith}
use Rattle.pn_join.proofs.MarksFacts.{position_of-raised_marks}
use Rattle.pn_region.specs.Regions.{NoneAhead}
use Rattle.pn_region.specs.Events.{RegionEvent, round, half_round, loss, adoption, relayout, advance, AllLeadTo, AreHonestEvents, StartsFrom, AreAccepted, AreHonestCopies, start_events, all_left, all_taken}
use Rattle.pn_region.specs.Laws.{AreIn}
use Rattle.pn_region.proofs.Advanced.{advances}
use Rattle.pn_region.proofs.EventImages.{marked_images, marked_alike, new_none, round_none, taken_together}
use Rattle.pn_region.proofs.Common.{AllByRecursion, Positions, Ends, Reaches, table_of, BrokerRecord, up_to, TabletCopyValue, Bounds, IsLayout, step, after_step, tablet_after, TabletStateValue, empty_tablet, Adopt, ranges, AreTabletsOf, Serving, AreFaithful, HasImages, tablets_after_op, RegionValue, IsRegion, new_region, all_cells, AllServe}
use Rattle.pn_region.proofs.EventSteps.{adopts, takes, event_is, events_are}
use Rattle.pn_region.proofs.Faith.{new_faithful}
use Rattle.pn_region.proofs.FaithfulEvents.{events_faithful}
use Rattle.pn_region.proofs.RoundSteps.{new_is}
use Rattle.pn_region.proofs.RoundEnds.{new_serves, taken_serves}
use Rattle.pn_tablet.proofs.TabletLaws.{adopted}

-- some events lead on from where others lead
pub lead_on : (first later : List RegionEvent) (old next new : RegionValue) → AllLeadTo first old next → AllLeadTo later next new → AllLeadTo (first ++ later) old new
lead_on [] later old next new lead more = subst (λ (r : RegionValue). AllLeadTo later r new) lead more
lead_on (event ∷ first) later old next new lead more = (lead.0, lead.1, lead_on first later lead.0 next new lead.2 more)

-- the events of a list and of another come to those of both
pub honest_both : (broker : BrokerRecord) (first later : List RegionEvent) → AreHonestEvents broker first → AreHonestEvents broker later → AreHonestEvents broker (first ++ later)
honest_both broker [] later honest more = more
honest_both broker (event ∷ first) later honest more = (honest.0, honest_both broker first later honest.1 more)

-- honest copies are honest events
honest_start : (broker : BrokerRecord) (copies : List TabletCopyValue) → AreHonestCopies broker copies → AreHonestEvents broker (start_events copies)
honest_start broker [] honest = (tt, tt)
honest_start broker (copy ∷ copies) honest = (honest.0, honest_start broker copies honest.1)

abbrev Serve : List TabletStateValue → Type 0
Serve tablets = AllByRecursion (λ tablet. tablet.status ≡ Serving) tablets

-- a tablet that adopts a copy serves, and one that refuses it stays as it is
adopt_serves : (t : TabletStateValue) (copy : TabletCopyValue) → t.status ≡ Serving → (tablet_after t (Adopt copy)).status ≡ Serving
adopt_serves t copy serves =
    elim (step t (Adopt copy)) as (λ right. step t (Adopt copy) ≡ right → (after_step t right).status ≡ Serving) [
      | Ok after ↦ λ is. ap (λ (u : TabletStateValue). u.status) (adopted t copy after is).taken
      | Err refusal ↦ λ is. serves
    ] refl

pub adopts_at : (n : ℕ) (copy : TabletCopyValue) (ts : List TabletStateValue) → Serve ts → Serve (tablets_after_op n (Adopt copy) ts)
adopts_at n copy [] serve = tt
adopts_at zero copy (t ∷ ts) serve = (adopt_serves t copy serve.0, serve.1)
adopts_at (suc n) copy (t ∷ ts) serve = (serve.0, adopts_at n copy ts serve.1)

start_serves : (copies : List TabletCopyValue) (old new : RegionValue) → AllServe old → AllLeadTo (start_events copies) old new → AllServe new
start_serves [] old new serve lead =
    subst AllServe (sym lead.2) (subst AllServe (sym (advances old lead.0 lead.1)) serve)
start_serves (copy ∷ copies) old new serve lead =
    start_serves copies lead.0 new
    (subst AllServe (sym (adopts old copy lead.1.tablet lead.0 lead.1.adopted).is) (adopts_at lead.1.tablet copy old.tablets serve)) lead.2

-- no reach is past the marks
abbrev AheadOf : Positions → List TabletStateValue → Type 0
AheadOf marks tablets = AllByRecursion (λ tablet. Reaches marks tablet.reach) tablets

-- a copy that is not past the marks takes no tablet past them
adopt_none : (marks : Positions) (t : TabletStateValue) (copy : TabletCopyValue) → Reaches marks copy.marks → Reaches marks t.reach → Reaches marks (tablet_after t (Adopt copy)).reach
adopt_none marks t copy at ahead =
    elim (step t (Adopt copy)) as (λ right. step t (Adopt copy) ≡ right → Reaches marks (after_step t right).reach) [
      | Ok after ↦ λ is. subst (λ (u : TabletStateValue). Reaches marks u.reach) (sym (adopted t copy after is).taken) (λ name. omega (arith, position_of-raised_marks t.reach copy.marks name, ahead name, at name))
      | Err refusal ↦ λ is. ahead
    ] refl

adopts_none : (marks : Positions) (n : ℕ) (copy : TabletCopyValue) (ts : List TabletStateValue) → Reaches marks copy.marks → AheadOf marks ts → AheadOf marks (tablets_after_op n (Adopt copy) ts)
adopts_none marks n copy [] at ahead = tt
adopts_none marks zero copy (t ∷ ts) at ahead = (adopt_none marks t copy at ahead.0, ahead.1)
adopts_none marks (suc n) copy (t ∷ ts) at ahead = (ahead.0, adopts_none marks n copy ts at ahead.1)

start_none : (marks : Positions) (copies : List TabletCopyValue) (old new : RegionValue) → AllByRecursion (λ (copy : TabletCopyValue). Reaches marks copy.marks) copies → AheadOf marks old.tablets
    → AllLeadTo (start_events copies) old new → AheadOf marks new.tablets
start_none marks [] old new at ahead lead =
    subst (λ (r : RegionValue). AheadOf marks r.tablets) (sym lead.2) (subst (λ (r : RegionValue). AheadOf marks r.tablets) (sym (advances old lead.0 lead.1)) ahead)
start_none marks (copy ∷ copies) old new at ahead lead =
    start_none marks copies lead.0 new at.1
    (subst (λ (r : RegionValue). AheadOf marks r.tablets) (sym (adopts old copy lead.1.tablet lead.0 lead.1.adopted).is) (adopts_none marks lead.1.tablet copy old.tablets at.0 ahead)) lead.2

none_yet : (marks : Positions) (rs : List Ends) → AheadOf marks (map empty_tablet rs)
none_yet marks [] = tt
none_yet marks (r ∷ rs) = ((λ name. omega arith), none_yet marks rs)

-- the covers of a region's tablets reach its marks
covers_all : (marks : Positions) (rs : List Ends) (ts : List TabletStateValue) → AreTabletsOf marks rs ts → AllByRecursion (λ (t : TabletStateValue). Reaches t.cover marks) ts
covers_all marks [] [] are = tt
covers_all marks [] (t ∷ ts) are = absurd are
covers_all marks (r ∷ rs) [] are = tt
covers_all marks (r ∷ rs) (t ∷ ts) are = (are.0.covered, covers_all marks rs ts are.1)

-- rounds that are accepted keep tablets serving, and none of them ahead of the marks
rounds_serve : (events : List RegionEvent) (old new : RegionValue) → AreAccepted events → AllLeadTo events old new → AllServe old → AllServe new
rounds_serve [] old new are lead serve = subst AllServe (sym lead) serve
rounds_serve (round deliveries ∷ events) old new are lead serve =
    let took = takes old deliveries lead.0 lead.1 in
    rounds_serve events lead.0 new are.1 lead.2 (subst AllServe (sym took.is) (taken_serves old deliveries took.marks serve))
rounds_serve (half_round deliveries ∷ events) old new are lead serve = absurd are.0
rounds_serve (loss tablet ∷ events) old new are lead serve = absurd are.0
rounds_serve (adoption copy ∷ events) old new are lead serve = absurd are.0
rounds_serve (relayout bounds ∷ events) old new are lead serve = absurd are.0
rounds_serve (advance ∷ events) old new are lead serve = absurd are.0

rounds_none : (events : List RegionEvent) (old new : RegionValue) → AreAccepted events → AllLeadTo events old new → IsRegion old → NoneAhead old → NoneAhead new
rounds_none [] old new are lead is ahead = subst NoneAhead (sym lead) ahead
rounds_none (round deliveries ∷ events) old new are lead is ahead =
    let took = takes old deliveries lead.0 lead.1 in
    rounds_none events lead.0 new are.1 lead.2 (event_is (round deliveries) old lead.0 is lead.1)
    (subst NoneAhead (sym took.is) (round_none old deliveries took.marks is ahead took.accepted))
rounds_none (half_round deliveries ∷ events) old new are lead is ahead = absurd are.0
rounds_none (loss tablet ∷ events) old new are lead is ahead = absurd are.0
rounds_none (adoption copy ∷ events) old new are lead is ahead = absurd are.0
rounds_none (relayout bounds ∷ events) old new are lead is ahead = absurd are.0
rounds_none (advance ∷ events) old new are lead is ahead = absurd are.0

new_region_is : (bounds : Bounds) → IsLayout bounds → IsRegion (new_region bounds)
new_region_is bounds lawful = new_is bounds (new_region bounds).tablets [] lawful refl refl

module _ (copies : List TabletCopyValue) (bounds : Bounds) (started : RegionValue) (starts : StartsFrom copies bounds started) where
  pub started_is : IsRegion started
  started_is = events_are (start_events copies) (new_region bounds) started (new_region_is bounds starts.lawful) starts.lead

  pub started_serves : AllServe started
  started_serves = start_serves copies (new_region bounds) started (new_serves bounds) starts.lead

  pub started_covers : (events : List RegionEvent) (region : RegionValue) → AllLeadTo events started region → IsRegion region × AllByRecursion (λ (t : TabletStateValue). Reaches t.cover region.marks) region.tablets
  started_covers events region lead =
      let is = events_are events started region started_is lead in
      (is, covers_all region.marks (ranges region.layout) region.tablets is.tablets)

  pub started_none : AllByRecursion (λ (copy : TabletCopyValue). Reaches started.marks copy.marks) copies → NoneAhead started
  started_none at = start_none started.marks copies (new_region bounds) started at (none_yet started.marks (ranges bounds)) starts.lead

module _ (broker : BrokerRecord) (copies : List TabletCopyValue) (bounds : Bounds) (events : List RegionEvent) (started region : RegionValue) (starts : StartsFrom copies bounds started)
    (honest : AreHonestCopies broker copies) (lead : AllLeadTo events started region) (more : AreHonestEvents broker events) where
  all_lead : AllLeadTo (start_events copies ++ events) (new_region bounds) region
  all_lead = lead_on (start_events copies) events (new_region bounds) started region starts.lead lead

  all_honest : AreHonestEvents broker (start_events copies ++ events)
  all_honest = honest_both broker (start_events copies) events (honest_start broker copies honest) more

  pub later_faithful : AreFaithful broker region.tablets
  later_faithful =
      events_faithful broker (start_events copies ++ events) (new_region bounds) region (new_region_is bounds starts.lawful) (new_faithful broker bounds) all_honest all_lead

  pub has_what_it_took : AllServe region → AreIn (all_left (start_events copies ++ events)) (all_taken broker (start_events copies ++ events)) → all_cells region ≡ table_of (all_taken broker (start_events copies ++ events))
  has_what_it_took serve left = taken_together broker bounds (start_events copies ++ events) region starts.lawful all_lead all_honest serve left

  module _ (ahead : NoneAhead started) (are : AreAccepted events) where
    serve : AllServe region
    serve = rounds_serve events started region are lead (started_serves copies bounds started starts)

    none : NoneAhead region
    none = rounds_none events started region are lead (started_is copies bounds started starts) ahead

    pub later_images : HasImages region (up_to broker region.marks)
    later_images = marked_images broker bounds (start_events copies ++ events) region starts.lawful all_lead all_honest serve none

    pub later_alike : (others : Bounds) (taken : List RegionEvent) (other : RegionValue) → IsLayout others → AreAccepted taken → AllLeadTo taken (new_region others) other → AreHonestEvents broker taken
        → Reaches region.marks other.marks → Reaches other.marks region.marks → all_cells region ≡ all_cells other
    later_alike others taken other lawful are_too lead_too honest_too reach reach_too =
        marked_alike broker bounds others (start_events copies ++ events) taken region other starts.lawful all_lead all_honest serve none
        lawful lead_too honest_too (rounds_serve taken (new_region others) other are_too lead_too (new_serves others))
        (rounds_none taken (new_region others) other are_too lead_too (new_region_is others lawful) (new_none others)) reach reach_too

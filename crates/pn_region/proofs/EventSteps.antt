-- What an event does to each tablet.
use Rattle.std.proofs.Common.{◌≡◌, ℕ, zero, suc, List, [], ◌∷◌, slice_get, Option, None, Some, Result, Ok, Err, refl, sym, ap, ◌∙◌, subst, arith, ◌⊎◌, inl, inr}
use Rattle.std.specs.Result.{result_map_both}
use Rattle.pn_region.specs.Events.{RegionEvent, round, half_round, loss, adoption, relayout, advance, LeadsTo, AllLeadTo, KeepsLayout, KeepLayout}
use Rattle.pn_region.specs.Recovery.{after_op, lacks, after_adoption_unless, after_adoption}
use Rattle.pn_region.specs.Rounds as rounds
use Rattle.pn_region.proofs.Advanced.{advances, advanced_is}
use Rattle.pn_region.proofs.Common.{Positions, Reaches, DeliveryValue, TabletCopyValue, tablet_after, TabletStateValue, Shortfall, TabletOp, Lose, Adopt, AreOldOrStepped, all_images, ranges, new_marks, tablets_after_op, tablet_for, after_adoption_by, RegionValue, IsRegion, RoundFault}
use Rattle.pn_region.proofs.RoundEnds.{half_so, half_taken_is, taken_half}
use Rattle.pn_region.proofs.OneTablet.{stepping_is}
use Rattle.pn_region.proofs.Relaying.{relays, relaid_is}
use Rattle.pn_region.proofs.RoundSteps.{all_taken}

-- what is known of an adoption
pub record Adopts (region : RegionValue) (copy : TabletCopyValue) (n : ℕ) (new : RegionValue) : Type 0 where
  pub found : tablet_for region copy ≡ Some n
  pub lacks_none : lacks region copy n ≡ None
  pub is : new ≡ after_op region n (Adopt copy)

-- an answer has one value
one_value : {A E : Type 0} (value other : A) (answer : Result A E) → answer ≡ Ok value → answer ≡ Ok other → value ≡ other
one_value value other answer is is_too = cc

adopts_unless : (region : RegionValue) (copy : TabletCopyValue) (m n : ℕ) (new : RegionValue) (short : Option Shortfall) → tablet_for region copy ≡ Some m → lacks region copy m ≡ short
    → after_adoption_unless region copy m short ≡ Ok (n, new) → Adopts region copy n new
adopts_unless region copy m n new None found none is =
    let both = one_value (m, after_op region m (Adopt copy)) (n, new) (after_adoption_unless region copy m None) refl is in
    let same : m ≡ n = ap (λ (p : ℕ × RegionValue). p.0) both in
    let same_region : after_op region m (Adopt copy) ≡ new = ap (λ (p : ℕ × RegionValue). p.1) both in
    record {
      found = found ∙ ap Some same;
      lacks_none = subst (λ (k : ℕ). lacks region copy k ≡ None) same none;
      is = sym same_region ∙ ap (λ (k : ℕ). after_op region k (Adopt copy)) same;
    }
adopts_unless region copy m n new (Some short) found some is = cc

adopts_by : (region : RegionValue) (copy : TabletCopyValue) (n : ℕ) (new : RegionValue) (found : Option ℕ) → tablet_for region copy ≡ found → after_adoption_by region copy found ≡ Ok (n, new) → Adopts region copy n new
adopts_by region copy n new None none is = cc
adopts_by region copy n new (Some m) found is = adopts_unless region copy m n new (lacks region copy m) found refl is

pub adopts : (region : RegionValue) (copy : TabletCopyValue) (n : ℕ) (new : RegionValue) → after_adoption region copy ≡ Ok (n, new) → Adopts region copy n new
adopts region copy n new is = adopts_by region copy n new (tablet_for region copy) refl is

-- what is known of a round that is taken
pub record Takes (region : RegionValue) (deliveries : List DeliveryValue) (new : RegionValue) : Type 0 where
  pub marks : Positions
  pub accepted : new_marks region.marks deliveries ≡ Ok marks
  pub is : new ≡ rounds.after_joins region deliveries marks

takes_by : (region : RegionValue) (deliveries : List DeliveryValue) (new : RegionValue) (right : Result Positions RoundFault) → new_marks region.marks deliveries ≡ right
    → result_map_both (rounds.after_joins region deliveries) (λ fault. fault) right ≡ Ok new → Takes region deliveries new
takes_by region deliveries new (Ok marks) accepted is =
    let same : rounds.after_joins region deliveries marks ≡ new = cc in
    record { marks = marks; accepted = accepted; is = sym same }
takes_by region deliveries new (Err fault) refused is = cc

pub takes : (region : RegionValue) (deliveries : List DeliveryValue) (new : RegionValue) → rounds.round region deliveries ≡ Ok new → Takes region deliveries new
takes region deliveries new is = takes_by region deliveries new (new_marks region.marks deliveries) refl is

-- an event leaves a region
pub event_is : (event : RegionEvent) (old new : RegionValue) → IsRegion old → LeadsTo event old new → IsRegion new
event_is (round deliveries) old new is leads =
    let took = takes old deliveries new leads in
    subst IsRegion (sym took.is) (record { lawful = is.lawful; tablets = all_taken took.marks (all_images deliveries) old.marks (ranges old.layout) old.tablets is.tablets })
event_is (half_round deliveries) old new is leads = half_taken_is old new deliveries is leads
event_is (loss n) old new is leads = subst IsRegion (sym leads) (stepping_is old n Lose tt is)
event_is (adoption copy) old new is leads =
    subst IsRegion (sym (adopts old copy leads.tablet new leads.adopted).is) (stepping_is old leads.tablet (Adopt copy) leads.lawful.inside is)
event_is (relayout bounds) old new is leads = subst IsRegion (sym (relays old new bounds leads.relaid).is) (relaid_is old bounds leads.lawful is)
event_is advance old new is leads = subst IsRegion (sym (advances old new leads)) (advanced_is old is)

pub events_are : (events : List RegionEvent) (old new : RegionValue) → IsRegion old → AllLeadTo events old new → IsRegion new
events_are [] old new is lead = subst IsRegion (sym lead) is
events_are (event ∷ events) old new is lead = events_are events lead.0 new (event_is event old lead.0 is lead.1) lead.2

-- the tablet is as it was, or took an operation
abbrev pub Moves : TabletStateValue → TabletStateValue → Type 0
Moves t u = (u ≡ t) ⊎ ((op : TabletOp) × (u ≡ tablet_after t op))

-- there are as many tablets, and each pair of them fits
abbrev pub Each : (TabletStateValue → TabletStateValue → Type 0) → List TabletStateValue → List TabletStateValue → Type 0
Each R [] [] = Unit {0}
Each R (t ∷ ts) (u ∷ us) = R t u × Each R ts us
Each R _ _ = ⊥

each_itself : (R : TabletStateValue → TabletStateValue → Type 0) → ((t : TabletStateValue) → R t t) → (ts : List TabletStateValue) → Each R ts ts
each_itself R itself [] = tt
each_itself R itself (t ∷ ts) = (itself t, each_itself R itself ts)

each_then : (R : TabletStateValue → TabletStateValue → Type 0) → ((t u v : TabletStateValue) → R t u → R u v → R t v) → (ts us vs : List TabletStateValue) → Each R ts us → Each R us vs → Each R ts vs
each_then R both [] [] [] first second = tt
each_then R both [] [] (v ∷ vs) first second = absurd second
each_then R both [] (u ∷ us) vs first second = absurd first
each_then R both (t ∷ ts) [] vs first second = absurd first
each_then R both (t ∷ ts) (u ∷ us) [] first second = absurd second
each_then R both (t ∷ ts) (u ∷ us) (v ∷ vs) first second = (both t u v first.0 second.0, each_then R both ts us vs first.1 second.1)

each_so : (R S : TabletStateValue → TabletStateValue → Type 0) → ((t u : TabletStateValue) → R t u → S t u) → (ts us : List TabletStateValue) → Each R ts us → Each S ts us
each_so R S so [] [] each = tt
each_so R S so [] (u ∷ us) each = absurd each
each_so R S so (t ∷ ts) [] each = absurd each
each_so R S so (t ∷ ts) (u ∷ us) each = (so t u each.0, each_so R S so ts us each.1)

-- the pair at an index
pub each_at : (R : TabletStateValue → TabletStateValue → Type 0) (ts us : List TabletStateValue) (n : ℕ) (t u : TabletStateValue) → Each R ts us → slice_get ts n ≡ Some t → slice_get us n ≡ Some u → R t u
each_at R [] [] n t u each there there_too = cc
each_at R [] (v ∷ us) n t u each there there_too = absurd each
each_at R (s ∷ ts) [] n t u each there there_too = absurd each
each_at R (s ∷ ts) (v ∷ us) zero t u each there there_too =
    let same : s ≡ t = cc in
    let same_too : v ≡ u = cc in
    subst (λ (a : TabletStateValue). R a u) same (subst (R s) same_too each.0)
each_at R (s ∷ ts) (v ∷ us) (suc n) t u each there there_too = each_at R ts us n t u each.1 there there_too

moves_half : (t u : TabletStateValue) (op : TabletOp) → (u ≡ t) ⊎ (u ≡ tablet_after t op) → Moves t u
moves_half t u op (inl same) = inl same
moves_half t u op (inr took) = inr (op, took)

halves_move : (ts : List TabletStateValue) (ops : List TabletOp) (us : List TabletStateValue) → AreOldOrStepped ts ops us → Each Moves ts us
halves_move [] [] [] half = tt
halves_move [] [] (u ∷ us) half = absurd half
halves_move [] (op ∷ ops) us half = absurd half
halves_move (t ∷ ts) [] us half = absurd half
halves_move (t ∷ ts) (op ∷ ops) [] half = absurd half
halves_move (t ∷ ts) (op ∷ ops) (u ∷ us) half = (moves_half t u op half.0, halves_move ts ops us half.1)

one_moves : (n : ℕ) (op : TabletOp) (ts : List TabletStateValue) → Each Moves ts (tablets_after_op n op ts)
one_moves n op [] = tt
one_moves zero op (t ∷ ts) = (inr (op, refl), each_itself Moves (λ u. inl refl) ts)
one_moves (suc n) op (t ∷ ts) = (inl refl, one_moves n op ts)

-- in an event that keeps the layout each tablet stays as it is, or takes one operation
pub each_moves : (event : RegionEvent) (old new : RegionValue) → IsRegion old → KeepsLayout event → LeadsTo event old new → Each Moves old.tablets new.tablets
each_moves (round deliveries) old new is keeps leads =
    let took = takes old deliveries new leads in
    subst (λ (r : RegionValue). Each Moves old.tablets r.tablets) (sym took.is) (halves_move old.tablets (rounds.joins old deliveries took.marks) (rounds.after_joins old deliveries took.marks).tablets (taken_half old deliveries is took.marks))
each_moves (half_round deliveries) old new is keeps leads =
    half_so old new deliveries (Each Moves old.tablets) (each_itself Moves (λ t. inl refl) old.tablets) (λ marks half. halves_move old.tablets _ new.tablets half) leads
each_moves (loss n) old new is keeps leads = subst (λ (r : RegionValue). Each Moves old.tablets r.tablets) (sym leads) (one_moves n Lose old.tablets)
each_moves (adoption copy) old new is keeps leads =
    subst (λ (r : RegionValue). Each Moves old.tablets r.tablets) (sym (adopts old copy leads.tablet new leads.adopted).is) (one_moves leads.tablet (Adopt copy) old.tablets)
each_moves (relayout bounds) old new is keeps leads = absurd keeps
each_moves advance old new is keeps leads = subst (λ (r : RegionValue). Each Moves old.tablets r.tablets) (sym (advances old new leads)) (each_itself Moves (λ t. inl refl) old.tablets)

-- what each event that keeps the layout does to a tablet, and each two that it does, such events do together
pub each_after : (R : TabletStateValue → TabletStateValue → Type 0) → ((t : TabletStateValue) → R t t) → ((t u v : TabletStateValue) → R t u → R u v → R t v) → ((t u : TabletStateValue) → Moves t u → R t u)
    → (events : List RegionEvent) (old new : RegionValue) → IsRegion old → KeepLayout events → AllLeadTo events old new → Each R old.tablets new.tablets
each_after R itself both moves [] old new is keep lead = subst (λ (r : RegionValue). Each R old.tablets r.tablets) (sym lead) (each_itself R itself old.tablets)
each_after R itself both moves (event ∷ events) old new is keep lead =
    each_then R both old.tablets lead.0.tablets new.tablets (each_so Moves R moves old.tablets lead.0.tablets (each_moves event old lead.0 is keep.0 lead.1))
    (each_after R itself both moves events lead.0 new (event_is event old lead.0 is lead.1) keep.1 lead.2)

-- the range stays, and neither the cover nor the reach falls
pub record Grows (t u : TabletStateValue) : Type 0 where
  pub range : u.range ≡ t.range
  pub cover : Reaches u.cover t.cover
  pub reach : Reaches u.reach t.reach

pub grows_itself : (t : TabletStateValue) → Grows t t
grows_itself t = record { range = refl; cover = λ name. omega arith; reach = λ name. omega arith }

pub grows_then : (t u v : TabletStateValue) → Grows t u → Grows u v → Grows t v
grows_then t u v first second = record {
  range = second.range ∙ first.range;
  cover = λ name. omega (arith, first.cover name, second.cover name);
  reach = λ name. omega (arith, first.reach name, second.reach name);
}

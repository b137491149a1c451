-- Rounds that some tablets took, and tablets that serve or need the same.
use Rattle.std.proofs.Common.{◌≡◌, ℕ, zero, suc, ◌+◌, nat_lt, Bool, cond, not, List, [], ◌∷◌, length, refl, ap, true, false, inl, inr}
use Rattle.std.specs.Prelude.{Option, Some, None, slice_get, Result, Ok, Err, MatchResult}
use Rattle.std.specs.List.{prefix_len}
use Rattle.std.specs.Option.{option_and_then}
use Rattle.pn_join.specs.Marks.{Positions}
use Rattle.pn_tablet.specs.Copies.{TabletCopyValue}
use Rattle.pn_tablet.specs.Tablets.{need_shortfall, TabletStateValue, same_range}
use Rattle.pn_tablet.specs.declared.state.Status.{Status}
use Rattle.pn_tablet.specs.declared.state.TabletOp.{TabletOp}
use Rattle.pn_stream.specs.Brokers.{DeliveryValue}
use Rattle.pn_apply.specs.Applying.{AreJoinsIn, AreOldOrStepped}
use Rattle.pn_region.specs.Recovery.{tablet_for, is_recovering, first_recovering}
use Rattle.pn_region.specs.Regions.{RegionValue, IsRegion}
use Rattle.pn_region.proofs.EventSteps.{Each}
use Rattle.pn_region.specs.Rounds.{new_marks, joins, IsHalfTaken}
use Rattle.pn_region.specs.declared.fault.RoundFault.{RoundFault}
use Rattle.pn_region.proofs.RoundEnds.{fit}
use Rattle.pn_serve.specs.Machine.Turns.{some_after, after_part_with_marks, after_part_of_round}
use Rattle.pn_serve.specs.Script.Events.{some_tablet}

-- Tablets of the same ranges, which serve or need the same.

abbrev pub SameFace : TabletStateValue → TabletStateValue → Type 0
SameFace t u = (t.range ≡ u.range) × (t.status ≡ u.status)

abbrev pub SameFaces : List TabletStateValue → List TabletStateValue → Type 0
SameFaces ts us = Each SameFace ts us

pub same_count : (ts us : List TabletStateValue) → SameFaces ts us → length ts ≡ length us
same_count [] [] faces = refl
same_count [] (u ∷ us) faces = absurd faces
same_count (t ∷ ts) [] faces = absurd faces
same_count (t ∷ ts) (u ∷ us) faces = ap suc (same_count ts us faces.1)

abbrev other_range : TabletCopyValue → TabletStateValue → Bool
other_range given state = not (same_range state.range given.range)

same_first : (given : TabletCopyValue) (ts us : List TabletStateValue) → SameFaces ts us → prefix_len (other_range given) ts ≡ prefix_len (other_range given) us
same_first given [] [] faces = refl
same_first given [] (u ∷ us) faces = absurd faces
same_first given (t ∷ ts) [] faces = absurd faces
same_first given (t ∷ ts) (u ∷ us) faces = λ i. cond (not (same_range (faces.0.0 i) given.range)) (1 + same_first given ts us faces.1 i) 0

pub same_place : (given : TabletCopyValue) (a b : RegionValue) → SameFaces a.tablets b.tablets → tablet_for a given ≡ tablet_for b given
same_place given a b faces =
    let first = same_first given a.tablets b.tablets faces in
    λ i. cond (nat_lt (first i) (same_count a.tablets b.tablets faces i)) (Some (first i)) None

pub lack_at : (given : TabletCopyValue) (n : ℕ) (ts us : List TabletStateValue) → SameFaces ts us
    → option_and_then (λ (s : TabletStateValue). need_shortfall s.status given.marks) (slice_get ts n) ≡ option_and_then (λ (s : TabletStateValue). need_shortfall s.status given.marks) (slice_get us n)
lack_at given n [] [] faces = refl
lack_at given n [] (u ∷ us) faces = absurd faces
lack_at given n (t ∷ ts) [] faces = absurd faces
lack_at given zero (t ∷ ts) (u ∷ us) faces = ap (λ (s : Status). need_shortfall s given.marks) faces.0.1
lack_at given (suc n) (t ∷ ts) (u ∷ us) faces = lack_at given n ts us faces.1

-- both are there, or neither is
abbrev pub BothThere : Option TabletStateValue → Option TabletStateValue → Type 0
BothThere None None = Unit {0}
BothThere (Some t) (Some u) = Unit {0}
BothThere _ _ = ⊥

pub both_at : (n : ℕ) (ts us : List TabletStateValue) → SameFaces ts us → BothThere (slice_get ts n) (slice_get us n)
both_at n [] [] faces = tt
both_at n [] (u ∷ us) faces = absurd faces
both_at n (t ∷ ts) [] faces = absurd faces
both_at zero (t ∷ ts) (u ∷ us) faces = tt
both_at (suc n) (t ∷ ts) (u ∷ us) faces = both_at n ts us faces.1

-- the first that recovers is the same
abbrev stays : TabletStateValue → Bool
stays state = not (is_recovering state.status)

same_still : (ts us : List TabletStateValue) → SameFaces ts us → prefix_len stays ts ≡ prefix_len stays us
same_still [] [] faces = refl
same_still [] (u ∷ us) faces = absurd faces
same_still (t ∷ ts) [] faces = absurd faces
same_still (t ∷ ts) (u ∷ us) faces = λ i. cond (not (is_recovering (faces.0.1 i))) (1 + same_still ts us faces.1 i) 0

pub same_recovering : (ts us : List TabletStateValue) → SameFaces ts us → first_recovering ts ≡ first_recovering us
same_recovering ts us faces =
    let first = same_still ts us faces in
    λ i. cond (nat_lt (first i) (same_count ts us faces i)) (Some (first i)) None

-- Rounds that some tablets took.

pub some_or_none : (flags : List Bool) (ts : List TabletStateValue) (ops : List TabletOp) → AreJoinsIn ts ops → AreOldOrStepped ts ops (some_after flags ts ops)
some_or_none [] [] [] fits = tt
some_or_none (flag ∷ flags) [] [] fits = tt
some_or_none flags [] (op ∷ ops) fits = absurd fits
some_or_none flags (t ∷ ts) [] fits = absurd fits
some_or_none [] (t ∷ ts) (op ∷ ops) fits = (inl refl, some_or_none [] ts ops fits.1)
some_or_none (true ∷ flags) (t ∷ ts) (op ∷ ops) fits = (inr refl, some_or_none flags ts ops fits.1)
some_or_none (false ∷ flags) (t ∷ ts) (op ∷ ops) fits = (inl refl, some_or_none flags ts ops fits.1)

pub none_stepped : (flags : List Bool) (ts : List TabletStateValue) (ops : List TabletOp) → some_tablet flags ts ≡ false → some_after flags ts ops ≡ ts
none_stepped [] ts ops none = refl
none_stepped (flag ∷ flags) [] ops none = refl
none_stepped (flag ∷ flags) (t ∷ ts) [] none = refl
none_stepped (true ∷ flags) (t ∷ ts) (op ∷ ops) none = cc
none_stepped (false ∷ flags) (t ∷ ts) (op ∷ ops) none = ap (λ rest. t ∷ rest) (none_stepped flags ts ops none)

pub partly_layout : (region : RegionValue) (deliveries : List DeliveryValue) (flags : List Bool) (right : Result Positions RoundFault) → (after_part_with_marks region deliveries flags right).layout ≡ region.layout
partly_layout region deliveries flags (Ok next) = refl
partly_layout region deliveries flags (Err fault) = refl

pub partly_marks : (region : RegionValue) (deliveries : List DeliveryValue) (flags : List Bool) (right : Result Positions RoundFault) → (after_part_with_marks region deliveries flags right).marks ≡ region.marks
partly_marks region deliveries flags (Ok next) = refl
partly_marks region deliveries flags (Err fault) = refl

pub partly_tablets : (region : RegionValue) (deliveries : List DeliveryValue) (flags : List Bool) (right : Result Positions RoundFault) → IsRegion region
    → MatchResult right (λ next. AreOldOrStepped region.tablets (joins region deliveries next) (after_part_with_marks region deliveries flags right).tablets) (λ fault. (after_part_with_marks region deliveries flags right).tablets ≡ region.tablets)
partly_tablets region deliveries flags (Ok next) is = some_or_none flags region.tablets (joins region deliveries next) (fit region deliveries is next)
partly_tablets region deliveries flags (Err fault) is = refl

pub partly_is : (region : RegionValue) (deliveries : List DeliveryValue) (flags : List Bool) → IsRegion region → IsHalfTaken region deliveries (after_part_of_round region deliveries flags)
partly_is region deliveries flags is =
    let right = new_marks region.marks deliveries in
    (partly_layout region deliveries flags right, partly_marks region deliveries flags right, partly_tablets region deliveries flags right is)

pub partly_none : (region : RegionValue) (deliveries : List DeliveryValue) (flags : List Bool) (right : Result Positions RoundFault) → some_tablet flags region.tablets ≡ false → after_part_with_marks region deliveries flags right ≡ region
partly_none region deliveries flags (Ok next) none = λ i. record { layout = region.layout; tablets = none_stepped flags region.tablets (joins region deliveries next) none i; marks = region.marks }
partly_none region deliveries flags (Err fault) none = refl

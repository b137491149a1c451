-- The live tablet that a copy is for, why it refuses the copy, and the copies that a new region adopts.
use Rattle.std.proofs.Common.{◌≡◌, ℕ, zero, suc, ◌+◌, ◌<◌, Bool, not, cond, if◌then◌else◌, nat_lt, List, [], ◌∷◌, length, map, get_or, slice_get, refl, sym, ap, ◌∙◌, subst, Option, Some, None, Ok, Err, Result, arith, true, false, ◌||◌, ◌&&◌, ◌⊎◌, inl, inr, ap₂}
use Rattle.std.specs.Prelude.{IsOk, IsSomeAnd, MatchResult}
use Rattle.std.specs.Option.{option_map, option_and_then, option_eq}
use Rattle.std.specs.List.{position, prefix_len, AllByRecursion, list_any}
use Rattle.std.proofs.lemmas.List.{length-map}
use Rattle.std.proofs.lemmas.Option.{slice_get_read}
use Rattle.std.specs.Str.{bytes_eq}
use Rattle.std.proofs.lemmas.Slice.Eq.{bytes_eq-Decides}
use Rattle.pn_tablet.specs.Copies.{TabletCopyValue}
use Rattle.pn_tablet.specs.Tablets.{need_shortfall, TabletStateValue, empty_tablet, same_range}
use Rattle.pn_tablet.specs.Layouts.{Ends, Bounds}
use Rattle.pn_tablet.specs.Steps.{Refuses, step, with_copy, is_memory, after_step, tablet_after}
use Rattle.pn_tablet.specs.declared.fault.OpFault.TheVariants.{WrongRange}
use Rattle.pn_tablet.specs.declared.fault.Shortfall.{Shortfall}
use Rattle.pn_tablet.specs.declared.state.TabletOp.TheVariants.{Adopt}
use Rattle.pn_tablet.specs.declared.fault.OpFault.{OpFault as AdoptFault}
use Rattle.pn_tablet.specs.declared.state.Status.TheVariants.{Serving}
use Rattle.pn_tablet.proofs.TabletLaws.{none_found, adopted}
use Rattle.pn_tablet.specs.declared.fault.OpFault.TheVariants as region_fault
use Rattle.pn_apply.specs.Reducing.{ranges}
use Rattle.pn_region.specs.Recovery.{tablet_for, after_adoption_unless, after_adoption_by, after_op, tablets_after_op, after_adoption, after_advance}
use Rattle.pn_region.specs.Regions.{RegionValue, new_region}
use Rattle.pn_region.proofs.OneTablet.{found_at, found_within}
use Rattle.pn_region.specs.Reads.{AllServe}
use Rattle.pn_region.specs.declared.fault.AdvanceFault.{AdvanceFault}
use Rattle.pn_region.specs.declared.fault.AdvanceFault.TheVariants.{TooManyStreams, Memory}
use Rattle.pn_region.proofs.EventSteps.{adopts}
use Rattle.pn_region.proofs.RoundEnds.{new_serves}
use Rattle.pn_region.proofs.Starting.{adopts_at}
use Rattle.pn_region.specs.Recovery as region
use Rattle.pn_live.specs.LiveRegions.{LiveRegionValue, core, too_old, IsAdvanceFault, StopsAt}
use Rattle.pn_live.specs.PublishedTablets.{PublishedTabletValue, state_at}
use Rattle.pn_live.proofs.ListLaws.{range_kept}
use Rattle.pn_live.specs.declared.fault.StartFault.{StartFault}
use Rattle.pn_live.specs.declared.fault.StartFault.TheVariants.{Open, Adopt as NotAdopted, Advance}

-- The live tablet that a copy is for, and why it refuses the copy.

before_found : (ps : List PublishedTabletValue) (r : Ends) → prefix_len (λ (t : TabletStateValue). not (same_range t.range r)) (map state_at ps) ≡ prefix_len (λ (p : PublishedTabletValue). not (same_range p.range r)) ps
before_found [] r = refl
before_found (p ∷ ps) r = λ i. cond (not (same_range (range_kept (empty_tablet p.range) p.list i) r)) (1 + before_found ps r i) 0

-- the tablet that has a range is found among those that are published
pub found_tablet : (ps : List PublishedTabletValue) (r : Ends) → position (λ (t : TabletStateValue). same_range t.range r) (map state_at ps) ≡ position (λ (p : PublishedTabletValue). same_range p.range r) ps
found_tablet ps r = λ i. cond (nat_lt (before_found ps r i) (length-map ps state_at i)) (Some (before_found ps r i)) None

-- the state of the tablet at the number
pub state_there : (ps : List PublishedTabletValue) (n : ℕ) (p : PublishedTabletValue) → n < length ps → p ≡ get_or ps n p → slice_get (map state_at ps) n ≡ Some (state_at p)
state_there [] n p within at = absurd (omega arith)
state_there (q ∷ ps) zero p within at = ap (λ (tablet : PublishedTabletValue). Some (state_at tablet)) (sym at)
state_there (q ∷ ps) (suc n) p within at = state_there ps n p (omega arith) at

-- what is known of the tablet at the number
pub known_of : (ps : List PublishedTabletValue) (n : ℕ) (p : PublishedTabletValue) (P : PublishedTabletValue → Type 0) → n < length ps → p ≡ get_or ps n p → P p → IsSomeAnd (slice_get ps n) P
known_of ps n p P within at known = subst (λ (found : Option PublishedTabletValue). IsSomeAnd found P) (sym (slice_get_read ps (length ps) n p refl within at)) known

-- no tablet has the copy's range
pub none_for : {seen : TabletCopyValue} (live : LiveRegionValue) (copy : TabletCopyValue) → seen ≡ copy → None ≡ position (λ (p : PublishedTabletValue). same_range p.range seen.range) live.tablets
    → region.after_adoption (core live) copy ≡ Err region_fault.WrongRange
none_for live copy copied none =
    ap (after_adoption_by (core live) copy)
    (found_tablet live.tablets copy.range ∙ sym (none ∙ ap (λ (x : TabletCopyValue). position (λ (p : PublishedTabletValue). same_range p.range x.range) live.tablets) copied))

refused_by : (r : RegionValue) (copy : TabletCopyValue) (n : ℕ) (short : Option Shortfall) (fault : AdoptFault) → Some fault ≡ option_map too_old short → Refuses is_memory fault (after_adoption_unless r copy n short)
refused_by r copy n None fault is = absurd (cc is)
refused_by r copy n (Some short) fault is =
    let same : fault ≡ too_old short = cc is in subst (λ (f : AdoptFault). Refuses is_memory f (after_adoption_unless r copy n (Some short))) (sym same) refl

none_lacks : (short : Option Shortfall) → None ≡ option_map too_old short → short ≡ None
none_lacks None is = refl
none_lacks (Some short) is = absurd (cc is)

-- the tablet of the number has the copy's range
module _ {inside live : LiveRegionValue} {seen copy : TabletCopyValue} (same : inside ≡ live) (copied : seen ≡ copy) (n : ℕ) (tablet : PublishedTabletValue)
    (first : Some n ≡ position (λ (p : PublishedTabletValue). same_range p.range seen.range) live.tablets) (at : tablet ≡ get_or inside.tablets n tablet) where
  found : tablet_for (core live) copy ≡ Some n
  found = found_tablet live.tablets copy.range ∙ sym (first ∙ ap (λ (x : TabletCopyValue). position (λ (p : PublishedTabletValue). same_range p.range x.range) live.tablets) copied)

  within : n < length live.tablets
  within = omega (arith, found_within (core live) copy n found, length-map live.tablets state_at)

  here : tablet ≡ get_or live.tablets n tablet
  here = at ∙ ap (λ (l : LiveRegionValue). get_or l.tablets n tablet) same

  -- what the tablet lacks of the copy's marks
  abbrev needs : Option Shortfall
  needs = need_shortfall (state_at tablet).status copy.marks

  needed : (answer : Option AdoptFault) → answer ≡ option_map too_old (need_shortfall (state_at tablet).status seen.marks) → answer ≡ option_map too_old needs
  needed answer is = is ∙ ap (λ (x : TabletCopyValue). option_map too_old (need_shortfall (state_at tablet).status x.marks)) copied

  is_adopting : region.after_adoption (core live) copy ≡ after_adoption_unless (core live) copy n needs
  is_adopting =
      ap (after_adoption_by (core live) copy) found
      ∙ ap (λ (t : Option TabletStateValue). after_adoption_unless (core live) copy n (option_and_then (λ (state : TabletStateValue). need_shortfall state.status copy.marks) t)) (state_there live.tablets n tablet within here)

  -- the copy is too old
  pub too_old_for : (fault : AdoptFault) → Some fault ≡ option_map too_old (need_shortfall (state_at tablet).status seen.marks) → Refuses is_memory fault (region.after_adoption (core live) copy)
  too_old_for fault is = subst (Refuses is_memory fault) (sym is_adopting) (refused_by (core live) copy n needs fault (needed (Some fault) is))

  -- what is known of the tablet is known at the number
  pub next_for : (P : PublishedTabletValue → Type 0) → P tablet → IsSomeAnd (slice_get live.tablets n) P
  next_for P known = known_of live.tablets n tablet P within here known

  -- the copy is not too old
  module _ (is : None ≡ option_map too_old (need_shortfall (state_at tablet).status seen.marks)) where
    none : needs ≡ None
    none = none_lacks needs (needed None is)

    pub adopts_it : region.after_adoption (core live) copy ≡ Ok (n, after_op (core live) n (Adopt copy))
    adopts_it = is_adopting ∙ ap (after_adoption_unless (core live) copy n) none

    pub is_taken : IsOk (step (state_at tablet) (Adopt copy))
    is_taken =
        subst (λ (b : Bool). IsOk (if b then with_copy (state_at tablet) copy needs else Err WrongRange)) (sym (found_at (core live) copy n (state_at tablet) found (state_there live.tablets n tablet within here)))
        (subst (λ (short : Option Shortfall). IsOk (with_copy (state_at tablet) copy short)) (sym none) refl)

    pub only_memory : IsOk (region.after_adoption (core live) copy)
    only_memory = subst (λ (answer : Result (ℕ × RegionValue) AdoptFault). IsOk answer) (sym adopts_it) refl

-- The copies of all tablets are adopted by a new region, so only the advance of its marks may be refused.

-- the range is one of these
abbrev is_in : List Ends → Ends → Bool
is_in rs range = list_any (λ other. same_range other range) rs

abbrev AreIn : List Ends → List Ends → Type 0
AreIn rs those = AllByRecursion (λ range. is_in rs range ≡ true) those

end_self : (end : Option (List ℕ)) → option_eq bytes_eq end end ≡ true
end_self None = refl
end_self (Some key) = (bytes_eq-Decides key key).1 refl

same_self : (range : Ends) → same_range range range ≡ true
same_self range = ap₂ (λ (a b : Bool). a && b) (end_self range.0) (end_self range.1)

or_true : (a b : Bool) → b ≡ true → (a || b) ≡ true
or_true true b is = refl
or_true false b is = is

in_more : (range : Ends) (rs those : List Ends) → AreIn rs those → AreIn (range ∷ rs) those
in_more range rs [] are = tt
in_more range rs (r ∷ those) are = (or_true (same_range range r) (is_in rs r) are.0, in_more range rs those are.1)

each_in : (rs : List Ends) → AreIn rs rs
each_in [] = tt
each_in (r ∷ rs) = (ap (λ (b : Bool). b || is_in rs r) (same_self r), in_more r rs rs (each_in rs))

of_copies : (rs : List Ends) (copies : List TabletCopyValue) → AreIn rs (map (λ (copy : TabletCopyValue). copy.range) copies) → AllByRecursion (λ (copy : TabletCopyValue). is_in rs copy.range ≡ true) copies
of_copies rs [] are = tt
of_copies rs (copy ∷ copies) are = (are.0, of_copies rs copies are.1)

abbrev ranges_of : List TabletStateValue → List Ends
ranges_of tablets = map (λ tablet. tablet.range) tablets

any_there : (range : Ends) (ts : List TabletStateValue) → is_in (ranges_of ts) range ≡ list_any (λ (t : TabletStateValue). same_range t.range range) ts
any_there range [] = refl
any_there range (t ∷ ts) = ap (λ (b : Bool). same_range t.range range || b) (any_there range ts)

-- a tablet that serves lacks nothing of a copy
serving_lack_none : (copy : TabletCopyValue) (ts : List TabletStateValue) (n : ℕ) → AllByRecursion (λ (t : TabletStateValue). t.status ≡ Serving) ts
    → option_and_then (λ (t : TabletStateValue). need_shortfall t.status copy.marks) (slice_get ts n) ≡ None
serving_lack_none copy [] n serve = refl
serving_lack_none copy (t ∷ ts) zero serve = ap (λ status. need_shortfall status copy.marks) serve.0
serving_lack_none copy (t ∷ ts) (suc n) serve = serving_lack_none copy ts n serve.1

-- a copy of some tablet's range is adopted where all tablets serve
never_refused : (region : RegionValue) (copy : TabletCopyValue) (fault : AdoptFault) → is_in (ranges_of region.tablets) copy.range ≡ true → AllServe region → after_adoption region copy ≡ Err fault → ⊥
never_refused region copy fault there serve is =
    elim (tablet_for region copy) as (λ found. tablet_for region copy ≡ found → after_adoption_by region copy found ≡ Err fault → ⊥) [
      | None ↦ λ none is.
          let p = λ (t : TabletStateValue). same_range t.range copy.range in
          let absent : list_any p region.tablets ≡ false = none_found p (λ (t : TabletStateValue). t) region.tablets (ap (λ (o : Option ℕ). option_map (λ (t : TabletStateValue). t) (option_and_then (slice_get region.tablets) o)) none) in
          differ (sym there ∙ any_there copy.range region.tablets ∙ absent)
      | Some n ↦ λ some is. taken (sym (ap (after_adoption_unless region copy n) (serving_lack_none copy region.tablets n serve)) ∙ is)
    ] refl is
  where
    differ : true ≡ false → ⊥
    differ same = cc

    taken : {A : Type 0} {value : A} → Ok value ≡ Err fault → ⊥
    taken same = cc

adopt_range : (t : TabletStateValue) (copy : TabletCopyValue) → (tablet_after t (Adopt copy)).range ≡ t.range
adopt_range t copy =
    elim (step t (Adopt copy)) as (λ right. step t (Adopt copy) ≡ right → (after_step t right).range ≡ t.range) [
      | Ok after ↦ λ is. ap (λ (u : TabletStateValue). u.range) (adopted t copy after is).taken
      | Err refusal ↦ λ is. refl
    ] refl

ranges_kept : (n : ℕ) (copy : TabletCopyValue) (ts : List TabletStateValue) → ranges_of (tablets_after_op n (Adopt copy) ts) ≡ ranges_of ts
ranges_kept n copy [] = refl
ranges_kept zero copy (t ∷ ts) = ap (λ (r : Ends). r ∷ ranges_of ts) (adopt_range t copy)
ranges_kept (suc n) copy (t ∷ ts) = ap (λ (rs : List Ends). t.range ∷ rs) (ranges_kept n copy ts)

-- where memory ran out, or the marks are of too many streams
abbrev pub StopsOnly : StartFault → Type 0
StopsOnly fault = (fault ≡ NotAdopted region_fault.Memory) ⊎ ((fault ≡ Advance Memory) ⊎ (fault ≡ Advance TooManyStreams))

by_advance : (fault : StartFault) (right : Result RegionValue AdvanceFault) → IsAdvanceFault fault right → StopsOnly fault
by_advance (Open fault) right is = absurd is
by_advance (NotAdopted fault) right is = absurd is
by_advance (Advance TooManyStreams) right is = inr (inr refl)
by_advance (Advance Memory) right is = inr (inl refl)

or_later : {S : Type 0} (fault : StartFault) → (S → StopsOnly fault) → (fault ≡ NotAdopted region_fault.Memory) ⊎ S → StopsOnly fault
or_later fault later (inl memory) = inl memory
or_later fault later (inr stops) = later stops

only_streams : (rs : List Ends) (copies : List TabletCopyValue) (region : RegionValue) (fault : StartFault) → AllByRecursion (λ (copy : TabletCopyValue). is_in rs copy.range ≡ true) copies → ranges_of region.tablets ≡ rs → AllServe region
    → StopsAt copies region fault → StopsOnly fault
only_streams rs [] region fault are same serve stops = by_advance fault (after_advance region) stops
only_streams rs (copy ∷ copies) region fault are same serve stops =
    elim (after_adoption region copy) as (λ right. after_adoption region copy ≡ right → MatchResult right (λ taken. (fault ≡ NotAdopted region_fault.Memory) ⊎ StopsAt copies taken.1 fault) (λ refusal. fault ≡ NotAdopted refusal) → StopsOnly fault) [
      | Ok taken ↦ λ adopt stops.
          let new = (adopts region copy taken.0 taken.1 adopt).is in
          or_later fault
          (only_streams rs copies taken.1 fault are.1
          (ap (λ (r : RegionValue). ranges_of r.tablets) new ∙ ranges_kept taken.0 copy region.tablets ∙ same)
          (subst AllServe (sym new) (adopts_at taken.0 copy region.tablets serve))) stops
      | Err why ↦ λ refused stops. absurd (never_refused region copy why (ap (λ (those : List Ends). is_in those copy.range) same ∙ are.0) serve refused)
    ] refl stops

empty_ranges : (rs : List Ends) → ranges_of (map empty_tablet rs) ≡ rs
empty_ranges [] = refl
empty_ranges (r ∷ rs) = ap (λ (those : List Ends). r ∷ those) (empty_ranges rs)

pub all_adopted : (copies : List TabletCopyValue) (bounds : Bounds) (fault : StartFault) → map (λ (copy : TabletCopyValue). copy.range) copies ≡ ranges bounds → StopsAt copies (new_region bounds) fault → StopsOnly fault
all_adopted copies bounds fault own is =
    only_streams (ranges bounds) copies (new_region bounds) fault (of_copies (ranges bounds) copies (subst (AreIn (ranges bounds)) (sym own) (each_in (ranges bounds))))
    (empty_ranges (ranges bounds)) (new_serves bounds) is

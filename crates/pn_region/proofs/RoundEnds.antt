-- What a round leaves, by how it ended: no record is older, and tablets that served still serve.
use Rattle.std.proofs.Common.{◌≡◌, ◌≤◌, List, length, refl, sym, ap, ◌∙◌, subst, arith, ◌⊎◌, inl, inr, Bool, true, false, cond, [], ◌∷◌, map, ℕ, ◌++◌, Option, None, Some}
use Rattle.std.specs.Prelude.{IfErr}
use Rattle.std.specs.Result.{result_map_both}
use Rattle.pn_record.specs.Cells.{NotOlder}
use Rattle.pn_record.proofs.Differing.{joined_not_older}
use Rattle.pn_tablet.specs.Steps.{with_join}
use Rattle.pn_tablet.proofs.TabletLaws.{never_older}
use Rattle.pn_apply.specs.Applying.{AreJoinsIn, IsSomeOld}
use Rattle.pn_apply.proofs.Turns.{all_old, old_or_stepped, stepped_whole}
use Rattle.pn_apply.proofs.ReduceLaws.{joins_fit}
use Rattle.pn_region.specs.Rounds.{after_joins, round, Leaves}
use Rattle.pn_region.proofs.Common.{Result, Ok, Err, MatchResult, Positions, DeliveryValue, TabletStateValue, changes, Change, TabletOp, flat_map, all_stepped, all_changes, AreOldOrStepped, all_images, joined_cells, ranges, new_marks, RegionValue, AreTabletsOf, IsRegion, all_cells, joins, RoundFault, Gap, TooManyStreams, Memory, IsHalfTaken, AllByRecursion, Image, Entries, Bounds, Ends, after_step, tablet_after, empty_tablet, lie_in, WrongRange, Join, Serving, join_in, new_region, AllServe, find, bytes_cmp, CellValue, in_range, IsTabletOf}
use Rattle.pn_region.proofs.Pieces.{ranges_apart, Apart, cells_of, none_outside, found_after, found_before, none_there}
use Rattle.pn_region.proofs.RoundSteps.{few_together, tablet_count, own_ranges, all_taken, half_taken, changes_together}
use Rattle.pn_region.specs.Rounds as rounds

-- What a round leaves, by how it ended.

-- what holds of every fault holds of the one that is answered
pub whatever : {T E : Type 0} (answer : Result T E) (P : E → Type 0) → ((fault : E) → P fault) → IfErr answer P
whatever (Ok value) P holds = tt
whatever (Err fault) P holds = holds fault

-- none or all have taken their joins
pub none_taken : (ts : List TabletStateValue) (ops : List TabletOp) → AreJoinsIn ts ops → AreOldOrStepped ts ops ts
none_taken ts ops fit = old_or_stepped ts ops 0 fit

pub each_taken : (ts us : List TabletStateValue) (ops : List TabletOp) → AreJoinsIn ts ops → us ≡ all_stepped ts ops → AreOldOrStepped ts ops us
each_taken ts us ops fit is =
    subst (AreOldOrStepped ts ops) (stepped_whole ts ops (length ops) fit (omega arith) ∙ sym is) (old_or_stepped ts ops (length ops) fit)

module _ (old : RegionValue) (deliveries : List DeliveryValue) (is : IsRegion old) where
  pub fit : (marks : Positions) → AreJoinsIn old.tablets (joins old deliveries marks)
  fit marks = joins_fit old.layout marks (all_images deliveries) old.tablets (own_ranges old.marks (ranges old.layout) old.tablets is.tablets)

  -- a round that is taken leaves each tablet with its join
  pub taken_half : (marks : Positions) → AreOldOrStepped old.tablets (joins old deliveries marks) (after_joins old deliveries marks).tablets
  taken_half marks = each_taken old.tablets (after_joins old deliveries marks).tablets (joins old deliveries marks) (fit marks) refl

  half_none : (right : Result Positions RoundFault) → MatchResult right (λ marks. AreOldOrStepped old.tablets (joins old deliveries marks) old.tablets) (λ fault. old.tablets ≡ old.tablets)
  half_none (Ok marks) = none_taken old.tablets (joins old deliveries marks) (fit marks)
  half_none (Err fault) = refl

  -- a fault that changed nothing
  pub same_left : (fault : RoundFault) → Leaves fault old deliveries old
  same_left (Gap stream wanted got) = refl
  same_left TooManyStreams = refl
  same_left Memory = (refl, refl, half_none (new_marks old.marks deliveries))

  -- memory ran out while joins were taken
  pub half_left : (marks : Positions) (us : List TabletStateValue) → new_marks old.marks deliveries ≡ Ok marks → AreOldOrStepped old.tablets (joins old deliveries marks) us
      → Leaves Memory old deliveries (record { layout = old.layout; tablets = us; marks = old.marks })
  half_left marks us accepted half =
      (refl, refl, subst (λ (right : Result Positions RoundFault). MatchResult right (λ marks. AreOldOrStepped old.tablets (joins old deliveries marks) us) (λ fault. us ≡ old.tablets)) (sym accepted) half)

  -- it is a region all the same
  pub half_region : (marks : Positions) (us : List TabletStateValue) → AreOldOrStepped old.tablets (joins old deliveries marks) us → IsRegion (record { layout = old.layout; tablets = us; marks = old.marks })
  half_region marks us half = record { lawful = is.lawful; tablets = half_taken marks (all_images deliveries) old.marks (ranges old.layout) old.tablets us is.tablets half }

  -- all joins were taken
  pub new_region_is : (marks : Positions) (us : List TabletStateValue) → us ≡ all_stepped old.tablets (joins old deliveries marks) → IsRegion (record { layout = old.layout; tablets = us; marks = marks })
  new_region_is marks us taken = record {
    lawful = is.lawful;
    tablets = subst (AreTabletsOf marks (ranges old.layout)) (sym taken) (all_taken marks (all_images deliveries) old.marks (ranges old.layout) old.tablets is.tablets);
  }

  pub round_ok : (marks : Positions) (us : List TabletStateValue) → new_marks old.marks deliveries ≡ Ok marks → us ≡ all_stepped old.tablets (joins old deliveries marks)
      → round old deliveries ≡ Ok (record { layout = old.layout; tablets = us; marks = marks })
  round_ok marks us accepted taken =
      ap (result_map_both (after_joins old deliveries) (λ fault. fault)) accepted
      ∙ ap (λ (ts : List TabletStateValue). Ok (record { layout = old.layout; tablets = ts; marks = marks })) (sym taken)

  pub told_changes : (marks : Positions) (us : List TabletStateValue) (all : List Change) → us ≡ all_stepped old.tablets (joins old deliveries marks)
      → all ≡ flat_map (λ (list : List Change). list) (all_changes old.tablets (joins old deliveries marks))
      → all ≡ changes (all_cells old) (all_cells (record { layout = old.layout; tablets = us; marks = marks }))
  told_changes marks us all taken told =
      (told ∙ changes_together marks (all_images deliveries) old.marks (ranges old.layout) old.tablets (ranges_apart old.layout is.lawful) is.tablets)
      ∙ ap (λ (ts : List TabletStateValue). changes (all_cells old) (flat_map (λ tablet. tablet.cells) ts)) (sym taken)

  -- the tablets of a region, and the operations that were found for them
  module _ (marks : Positions) (ts us : List TabletStateValue) (ops : List TabletOp) (are : ts ≡ old.tablets) (found : ops ≡ joins old deliveries marks) where
    pub fit_found : AreJoinsIn ts ops
    fit_found = subst (λ (o : List TabletOp). AreJoinsIn ts o) (sym found) (subst (λ (t : List TabletStateValue). AreJoinsIn t (joins old deliveries marks)) (sym are) (fit marks))

    pub half_found : AreOldOrStepped ts ops us → AreOldOrStepped old.tablets (joins old deliveries marks) us
    half_found half = subst (λ (o : List TabletOp). AreOldOrStepped old.tablets o us) found (subst (λ (t : List TabletStateValue). AreOldOrStepped t ops us) are half)

    pub all_found : us ≡ all_stepped ts ops → us ≡ all_stepped old.tablets (joins old deliveries marks)
    all_found taken = taken ∙ (λ i. all_stepped (are i) (found i))

    -- no more records change than are joined
    pub few_found : length (flat_map (λ (list : List Change). list) (all_changes ts ops)) ≤ length (flat_map joined_cells ops)
    few_found =
        subst (λ (o : List TabletOp). length (flat_map (λ (list : List Change). list) (all_changes ts o)) ≤ length (flat_map joined_cells o)) (sym found)
        (subst (λ (t : List TabletStateValue). length (flat_map (λ (list : List Change). list) (all_changes t (joins old deliveries marks))) ≤ length (flat_map joined_cells (joins old deliveries marks))) (sym are)
        (few_together marks (all_images deliveries) old.marks (ranges old.layout) old.tablets is.tablets))

    pub told_found : (all : List Change) → all ≡ flat_map (λ (list : List Change). list) (all_changes ts ops) → all ≡ flat_map (λ (list : List Change). list) (all_changes old.tablets (joins old deliveries marks))
    told_found all told = told ∙ (λ i. flat_map (λ (list : List Change). list) (all_changes (are i) (found i)))

-- a region has a tablet, which is as it was where none changed
pub one_left : (old : RegionValue) → IsRegion old → IsSomeOld old.tablets old.tablets
one_left old is = all_old old.tablets (omega (arith, tablet_count old.marks old.layout old.tablets is.tablets))

-- a region by another name
pub err_as : {T : Type 0} (old now : RegionValue) (deliveries : List DeliveryValue) (answer : Result T RoundFault) (new : RegionValue) → old ≡ now
    → IfErr answer (λ fault. Leaves fault old deliveries new) → IfErr answer (λ fault. Leaves fault now deliveries new)
err_as old now deliveries answer new same holds = subst (λ (r : RegionValue). IfErr answer (λ fault. Leaves fault r deliveries new)) same holds

-- What a round that ran out of memory leaves in the tablets.

module _ (old new : RegionValue) (deliveries : List DeliveryValue) where
  by_end : (P : List TabletStateValue → Type 0) (right : Result Positions RoundFault) → P old.tablets → ((marks : Positions) → AreOldOrStepped old.tablets (joins old deliveries marks) new.tablets → P new.tablets)
      → MatchResult right (λ marks. AreOldOrStepped old.tablets (joins old deliveries marks) new.tablets) (λ fault. new.tablets ≡ old.tablets) → P new.tablets
  by_end P (Ok marks) same half left = half marks left
  by_end P (Err fault) same half left = subst P (sym left) same

  -- what holds of the tablets that were there, and of such as took their joins or not, holds of those that are left
  pub half_so : (P : List TabletStateValue → Type 0) → P old.tablets → ((marks : Positions) → AreOldOrStepped old.tablets (joins old deliveries marks) new.tablets → P new.tablets)
      → IsHalfTaken old deliveries new → P new.tablets
  half_so P same half left = by_end P (new_marks old.marks deliveries) same half left.2

  -- the layout and the marks are those that were there
  pub left_as : (P : RegionValue → Type 0) → IsHalfTaken old deliveries new → P (record { layout = old.layout; tablets = new.tablets; marks = old.marks }) → P new
  left_as P left holds = subst P (λ i. record { layout = sym left.0 i; tablets = new.tablets; marks = sym left.1 i }) holds

  -- a region is left
  pub half_taken_is : IsRegion old → IsHalfTaken old deliveries new → IsRegion new
  half_taken_is is left =
      left_as IsRegion left
      (half_so (λ (ts : List TabletStateValue). IsRegion (record { layout = old.layout; tablets = ts; marks = old.marks })) is (λ marks half. half_region old deliveries is marks new.tablets half) left)

-- Rounds leave tablets serving that served.

abbrev Serve : List TabletStateValue → Type 0
Serve tablets = AllByRecursion (λ tablet. tablet.status ≡ Serving) tablets

left_serving : (t : TabletStateValue) (cells : Entries) (marks : Positions) (b : Bool) → (after_step t (cond b (Ok (with_join t cells marks)) (Err WrongRange))).status ≡ t.status
left_serving t cells marks true = refl
left_serving t cells marks false = refl

join_serving : (t : TabletStateValue) (cells : Entries) (marks : Positions) → (tablet_after t (Join cells marks)).status ≡ t.status
join_serving t cells marks = left_serving t cells marks (lie_in t.range cells)

empty_ones : (rs : List Ends) → Serve (map empty_tablet rs)
empty_ones [] = tt
empty_ones (r ∷ rs) = (refl, empty_ones rs)

pub new_serves : (bounds : Bounds) → AllServe (new_region bounds)
new_serves bounds = empty_ones (ranges bounds)

module _ (marks : Positions) (images : List Image) where
  all_serve : (rs : List Ends) (ts : List TabletStateValue) → Serve ts → Serve (all_stepped ts (map (join_in marks images) rs))
  all_serve rs [] serve = tt
  all_serve [] (t ∷ ts) serve = tt
  all_serve (r ∷ rs) (t ∷ ts) serve = (join_serving t _ marks ∙ serve.0, all_serve rs ts serve.1)

  now_serves : (t now : TabletStateValue) (r : Ends) → t.status ≡ Serving → (now ≡ t) ⊎ (now ≡ tablet_after t (join_in marks images r)) → now.status ≡ Serving
  now_serves t now r serves (inl old) = ap (λ (tablet : TabletStateValue). tablet.status) old ∙ serves
  now_serves t now r serves (inr new) = ap (λ (tablet : TabletStateValue). tablet.status) new ∙ join_serving t _ marks ∙ serves

  half_serve : (rs : List Ends) (ts nows : List TabletStateValue) → AreOldOrStepped ts (map (join_in marks images) rs) nows → Serve ts → Serve nows
  half_serve [] [] [] half serve = tt
  half_serve [] [] (now ∷ nows) half serve = absurd half
  half_serve [] (t ∷ ts) nows half serve = absurd half
  half_serve (r ∷ rs) [] nows half serve = absurd half
  half_serve (r ∷ rs) (t ∷ ts) [] half serve = absurd half
  half_serve (r ∷ rs) (t ∷ ts) (now ∷ nows) half serve = (now_serves t now r serve.0 half.0, half_serve rs ts nows half.1 serve.1)

pub taken_serves : (region : RegionValue) (deliveries : List DeliveryValue) (marks : Positions) → AllServe region → AllServe (rounds.after_joins region deliveries marks)
taken_serves region deliveries marks serve = all_serve marks (all_images deliveries) (ranges region.layout) region.tablets serve

pub half_serves : (old new : RegionValue) (deliveries : List DeliveryValue) → AllServe old → IsHalfTaken old deliveries new → AllServe new
half_serves old new deliveries serve left =
    half_so old new deliveries Serve serve (λ marks half. half_serve marks (all_images deliveries) (ranges old.layout) old.tablets new.tablets half serve) left

-- No round takes a record away or leaves it at an older version.

-- the record of the key is not older in any tablet
abbrev AreNotOlder : List ℕ → List TabletStateValue → List TabletStateValue → Type 0
AreNotOlder key [] [] = Unit {0}
AreNotOlder key [] (later ∷ laters) = ⊥
AreNotOlder key (tablet ∷ tablets) [] = ⊥
AreNotOlder key (tablet ∷ tablets) (later ∷ laters) = NotOlder (find bytes_cmp key tablet.cells) (find bytes_cmp key later.cells) × AreNotOlder key tablets laters

renamed : (was was_too now now_too : Option CellValue) → was_too ≡ was → now_too ≡ now → NotOlder was now → NotOlder was_too now_too
renamed was was_too now now_too same same_now holds = subst (λ (o : Option CellValue). NotOlder o now_too) (sym same) (subst (NotOlder was) (sym same_now) holds)

-- then it is not older in all tablets together
none_older : (key : List ℕ) (marks later : Positions) (rs : List Ends) (ts us : List TabletStateValue) → Apart rs → AreTabletsOf marks rs ts → AreTabletsOf later rs us → AreNotOlder key ts us
    → NotOlder (find bytes_cmp key (cells_of ts)) (find bytes_cmp key (cells_of us))
none_older key marks later [] [] [] apart are too not_older = tt
none_older key marks later [] [] (u ∷ us) apart are too not_older = absurd too
none_older key marks later [] (t ∷ ts) us apart are too not_older = absurd are
none_older key marks later (r ∷ rs) [] us apart are too not_older = absurd are
none_older key marks later (r ∷ rs) (t ∷ ts) [] apart are too not_older = absurd too
none_older key marks later (r ∷ rs) (t ∷ ts) (u ∷ us) apart are too not_older =
    elim (in_range r key) as (λ b. in_range r key ≡ b → NotOlder (find bytes_cmp key (t.cells ++ cells_of ts)) (find bytes_cmp key (u.cells ++ cells_of us))) [
      | true ↦ λ lies.
          renamed (find bytes_cmp key t.cells) (find bytes_cmp key (t.cells ++ cells_of ts)) (find bytes_cmp key u.cells) (find bytes_cmp key (u.cells ++ cells_of us))
          (found_before key t.cells (cells_of ts) (none_there marks r rs ts apart.0 are.1 key lies))
          (found_before key u.cells (cells_of us) (none_there later r rs us apart.0 too.1 key lies)) not_older.0
      | false ↦ λ outside.
          renamed (find bytes_cmp key (cells_of ts)) (find bytes_cmp key (t.cells ++ cells_of ts)) (find bytes_cmp key (cells_of us)) (find bytes_cmp key (u.cells ++ cells_of us))
          (found_after key t.cells (cells_of ts) (none_outside r t.cells key are.0.inside outside))
          (found_after key u.cells (cells_of us) (none_outside r u.cells key too.0.inside outside))
          (none_older key marks later rs ts us apart.1 are.1 too.1 not_older.1)
    ] refl

itself_not_older : (o : Option CellValue) → NotOlder o o
itself_not_older None = tt
itself_not_older (Some cell) = joined_not_older (Some cell) None

module _ (key : List ℕ) (marks old : Positions) (images : List Image) where
  one_taken : (r : Ends) (t : TabletStateValue) → IsTabletOf old r t → NotOlder (find bytes_cmp key t.cells) (find bytes_cmp key (tablet_after t (join_in marks images r)).cells)
  one_taken r t is = never_older t (join_in marks images r) is.spelled (λ lost. cc) key

  one_half : (r : Ends) (t u : TabletStateValue) → IsTabletOf old r t → (u ≡ t) ⊎ (u ≡ tablet_after t (join_in marks images r)) → NotOlder (find bytes_cmp key t.cells) (find bytes_cmp key u.cells)
  one_half r t u is (inl same) = subst (λ (now : TabletStateValue). NotOlder (find bytes_cmp key t.cells) (find bytes_cmp key now.cells)) (sym same) (itself_not_older (find bytes_cmp key t.cells))
  one_half r t u is (inr took) = subst (λ (now : TabletStateValue). NotOlder (find bytes_cmp key t.cells) (find bytes_cmp key now.cells)) (sym took) (one_taken r t is)

  each_half : (rs : List Ends) (ts us : List TabletStateValue) → AreTabletsOf old rs ts → AreOldOrStepped ts (map (join_in marks images) rs) us → AreNotOlder key ts us
  each_half [] [] [] are half = tt
  each_half [] [] (u ∷ us) are half = absurd half
  each_half [] (t ∷ ts) us are half = absurd are
  each_half (r ∷ rs) [] us are half = absurd are
  each_half (r ∷ rs) (t ∷ ts) [] are half = absurd half
  each_half (r ∷ rs) (t ∷ ts) (u ∷ us) are half = (one_half r t u are.0 half.0, each_half rs ts us are.1 half.1)

-- a round leaves no record older
pub round_not_older : (region : RegionValue) (deliveries : List DeliveryValue) (marks : Positions) → IsRegion region → (key : List ℕ)
    → NotOlder (find bytes_cmp key (all_cells region)) (find bytes_cmp key (all_cells (after_joins region deliveries marks)))
round_not_older region deliveries marks is key =
    let images = all_images deliveries in
    let rs = ranges region.layout in
    none_older key region.marks marks rs region.tablets (all_stepped region.tablets (map (join_in marks images) rs)) (ranges_apart region.layout is.lawful) is.tablets
    (all_taken marks images region.marks rs region.tablets is.tablets) (each_half key marks region.marks images rs region.tablets (after_joins region deliveries marks).tablets is.tablets (taken_half region deliveries is marks))

-- nor does one that ran out of memory
pub half_not_older : (old new : RegionValue) (deliveries : List DeliveryValue) → IsRegion old → IsHalfTaken old deliveries new → (key : List ℕ)
    → NotOlder (find bytes_cmp key (all_cells old)) (find bytes_cmp key (all_cells new))
half_not_older old new deliveries is left key =
    half_so old new deliveries (λ (ts : List TabletStateValue). NotOlder (find bytes_cmp key (cells_of old.tablets)) (find bytes_cmp key (cells_of ts)))
    (itself_not_older (find bytes_cmp key (cells_of old.tablets)))
    (λ marks half.
    none_older key old.marks old.marks (ranges old.layout) old.tablets new.tablets (ranges_apart old.layout is.lawful) is.tablets
    (half_taken marks (all_images deliveries) old.marks (ranges old.layout) old.tablets new.tablets is.tablets half)
    (each_half key marks old.marks (all_images deliveries) (ranges old.layout) old.tablets new.tablets is.tablets half)) left

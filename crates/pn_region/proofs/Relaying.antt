-- Regions after a change of layout, and the images that their tablets have.
use Rattle.std.proofs.Common.{◌≡◌, ℕ, zero, suc, ◌+◌, ◌<◌, ◌≤◌, Bool, true, false, cond, nat_lt, List, [], ◌∷◌, length, map, get_or, slice_get, Option, Some, None, Ok, refl, sym, ap, ◌∙◌, subst, arith, is_lt}
use Rattle.std.specs.List.{position_or_len}
use Rattle.std.proofs.lemmas.Bool.Decides.{nat_tests}
use Rattle.std.proofs.lemmas.Cmp.{nat_list_cmp_total, tied_itself}
use Rattle.std.proofs.lemmas.List.Folds.{flat_map-map}
use Rattle.std.proofs.lemmas.List.Sums.{fails_before_first}
use Rattle.pn_record.proofs.CellMaps.{spelled_table}
use Rattle.pn_tablet.specs.Steps.{IsSpelled}
use Rattle.pn_tablet.specs.Layouts.{is_below, is_before, are_ends, meet}
use Rattle.pn_tablet.specs.declared.state.Status.{Status}
use Rattle.pn_tablet.proofs.LayoutFacts.{key_in_tablet, tablet_of_within, ends_in_order}
use Rattle.pn_apply.proofs.Tables.{all_pieces, entries_that, table_that, all_that}
use Rattle.pn_region.specs.Recovery.{made_of, parts_of, with_layout, with_layout_unless, after_relayout, is_recovering, first_recovering}
use Rattle.pn_region.proofs.Common.{find, IsSome, AllByRecursion, range_with_len, Reaches, bytes_cmp, spell, Bounds, IsLayout, Ends, in_range, tablet_of, tablet_ends, TabletStateValue, Serving, Recovering, ranges, RegionValue, IsTabletOf, AreTabletsOf, IsRegion, all_cells, AllServe, Positions, Image, HasBetween}
use Rattle.pn_region.proofs.KeptRecords.{found_in}
use Rattle.pn_region.proofs.Standing.{range_at, has_tablet, has_its_cell, state_at}
use Rattle.pn_region.proofs.Pieces.{both_in_meet}
use Rattle.pn_region.proofs.RoundSteps.{tablet_count}
use Rattle.pn_region.proofs.TakenImages.{all_spelled, all_rising}
use Rattle.pn_region.proofs.PartMarks.{least_below, greatest_above, least_reaches, reached_by_all, all_kept, kept_at, covers_reach, reaches_reach}
pub use Rattle.pn_region.proofs.United.{united, IsOf, from_united, to_united, united_cells}
use Rattle.pn_region.specs.Laws.{IsBetween, HoldsBetween, AllHoldBetween}

-- Regions after a change of layout.

-- what is known of a change of layout
pub record Relays (old : RegionValue) (bounds : Bounds) (new : RegionValue) : Type 0 where
  pub is : new ≡ with_layout old bounds
  pub served : AllServe old
  pub serve : AllServe new

serves_then : (status : Status) → is_recovering status ≡ false → status ≡ Serving
serves_then Serving serves = refl
serves_then (Recovering need) serves = cc

each_serves : (ts : List TabletStateValue) → ((k : ℕ) (d : TabletStateValue) → k < length ts → is_recovering (get_or ts k d).status ≡ false) → AllByRecursion (λ (t : TabletStateValue). t.status ≡ Serving) ts
each_serves [] none = tt
each_serves (t ∷ ts) none = (serves_then t.status (none 0 t (omega arith)), each_serves ts (λ k d within. none (suc k) d (omega (arith, within))))

abbrev recovers : TabletStateValue → Bool
recovers t = is_recovering t.status

none_first : (ts : List TabletStateValue) → first_recovering ts ≡ None → length ts ≤ position_or_len recovers ts
none_first ts none =
    let first = position_or_len recovers ts in
    elim (nat_lt first (length ts)) as (λ b. nat_lt first (length ts) ≡ b → cond b (Some first) None ≡ None → length ts ≤ first) [
      | true ↦ λ is some. cc
      | false ↦ λ is none. grind (arith, nat_tests)
    ] refl none

-- where no tablet is recovering all serve
pub none_recovers : (ts : List TabletStateValue) → first_recovering ts ≡ None → AllByRecursion (λ (t : TabletStateValue). t.status ≡ Serving) ts
none_recovers ts none = each_serves ts (λ k d within. fails_before_first recovers ts k d (omega (arith, within, none_first ts none)))

all_made : (ts : List TabletStateValue) (rs : List Ends) → AllByRecursion (λ (t : TabletStateValue). t.status ≡ Serving) (map (made_of ts) rs)
all_made ts [] = tt
all_made ts (r ∷ rs) = (refl, all_made ts rs)

relays_by : (old new : RegionValue) (bounds : Bounds) (first : Option ℕ) → first_recovering old.tablets ≡ first → with_layout_unless old bounds first ≡ Ok new → Relays old bounds new
relays_by old new bounds None none is =
    let same : with_layout old bounds ≡ new = cc in
    record { is = sym same; served = none_recovers old.tablets none; serve = subst AllServe same (all_made old.tablets (ranges bounds)) }
relays_by old new bounds (Some tablet) some is = cc

pub relays : (old new : RegionValue) (bounds : Bounds) → after_relayout old bounds ≡ Ok new → Relays old bounds new
relays old new bounds is = relays_by old new bounds (first_recovering old.tablets) refl is

-- all tablets together have the cells that they had
pub same_records : (region : RegionValue) (bounds : Bounds) → IsLayout bounds → IsRegion region → all_cells (with_layout region bounds) ≡ all_cells region
same_records region bounds lawful is =
    flat_map-map (λ (t : TabletStateValue). t.cells) (made_of region.tablets) (ranges bounds) ∙ all_pieces bounds (all_cells region) lawful (all_rising region is)

-- the tablet of a key, which is in its range
record HasKey (region : RegionValue) (key : List ℕ) : Type 0 where
  pub tablet : TabletStateValue
  pub there : slice_get region.tablets (tablet_of region.layout key) ≡ Some tablet
  pub lies : in_range tablet.range key ≡ true

has_key_by : (region : RegionValue) (key : List ℕ) (found : Option TabletStateValue) → IsRegion region → slice_get region.tablets (tablet_of region.layout key) ≡ found → IsSome found → HasKey region key
has_key_by region key None is there some = cc
has_key_by region key (Some t) is there some = record {
  tablet = t;
  there = there;
  lies =
      ap (λ (ends : Ends). in_range ends key) (state_at region is (tablet_of region.layout key) t (tablet_of_within region.layout key) there).range
      ∙ key_in_tablet region.layout key is.lawful.rising;
}

has_key : (region : RegionValue) (key : List ℕ) → IsRegion region → HasKey region key
has_key region key is = has_key_by region key (slice_get region.tablets (tablet_of region.layout key)) is refl (has_tablet region key is)

-- the old tablet of a key of a new range: one of its parts
pub record IsPartAt (region : RegionValue) (r : Ends) (key : List ℕ) (part : TabletStateValue) : Type 0 where
  pub n : ℕ
  pub number : n ≡ tablet_of region.layout key
  pub there : slice_get region.tablets n ≡ Some part
  pub lies : in_range part.range key ≡ true
  pub cover : Reaches part.cover (made_of region.tablets r).cover
  pub reach : Reaches (made_of region.tablets r).reach part.reach
  pub cell : find bytes_cmp key (made_of region.tablets r).cells ≡ find bytes_cmp key part.cells

pub part_at : (region : RegionValue) → IsRegion region → (r : Ends) (key : List ℕ) → in_range r key ≡ true → (part : TabletStateValue) × IsPartAt region r key part
part_at region is r key lies =
    let has = has_key region key is in
    let n = tablet_of region.layout key in
    let kept = kept_at (λ (t : TabletStateValue). meet t.range r) region.tablets n has.tablet has.there (both_in_meet has.tablet.range r key has.lies lies) in (
      has.tablet,
      record {
        n = n;
        number = refl;
        there = has.there;
        lies = has.lies;
        cover = least_below (parts_of region.tablets r) kept.0 has.tablet kept.1;
        reach = greatest_above (parts_of region.tablets r) kept.0 has.tablet kept.1;
        cell = found_in r key (all_cells region) lies ∙ sym (has_its_cell region key has.tablet is has.there);
      },
    )

mapped_at : {A B : Type 0} (f : A → B) (xs : List A) (n : ℕ) (x : A) → slice_get xs n ≡ Some x → slice_get (map f xs) n ≡ Some (f x)
mapped_at f [] n x there = cc
mapped_at f (y ∷ xs) zero x there =
    let same : y ≡ x = cc in
    ap (λ z. Some (f z)) same
mapped_at f (y ∷ xs) (suc n) x there = mapped_at f xs n x there

-- the new tablet of a key, and what it is made of
pub new_at : (region : RegionValue) (bounds : Bounds) (key : List ℕ) → IsLayout bounds → (r : Ends) × (slice_get (with_layout region bounds).tablets (tablet_of bounds key) ≡ Some (made_of region.tablets r)) × (in_range r key ≡ true)
new_at region bounds key lawful =
    let n = tablet_of bounds key in
    (tablet_ends bounds n, mapped_at (made_of region.tablets) (ranges bounds) n (tablet_ends bounds n) (range_at bounds n (tablet_of_within bounds key)), key_in_tablet bounds key lawful.rising)

-- a tablet meets the range
abbrev HasPart : RegionValue → Ends → Type 0
HasPart region r = (n : ℕ) × (t : TabletStateValue) × (slice_get region.tablets n ≡ Some t) × (meet t.range r ≡ true)

key_has_part : (region : RegionValue) (r : Ends) (key : List ℕ) → IsRegion region → in_range r key ≡ true → HasPart region r
key_has_part region r key is lies =
    let has = has_key region key is in
    (tablet_of region.layout key, has.tablet, has.there, both_in_meet has.tablet.range r key has.lies lies)

first_has_part : (region : RegionValue) (to : Option (List ℕ)) (found : Option TabletStateValue) → IsRegion region → slice_get region.tablets 0 ≡ found → 0 < length region.tablets → HasPart region (None, to)
first_has_part region to None is there some = absurd (no_first region.tablets there some)
  where
    no_first : (ts : List TabletStateValue) → slice_get ts 0 ≡ None → 0 < length ts → ⊥
    no_first [] none some = omega (arith, some)
    no_first (t ∷ ts) none some = cc
first_has_part region to (Some t) is there some =
    let ranged : t.range ≡ tablet_ends region.layout 0 = (state_at region is 0 t (omega arith) there).range in
    (0, t, there, ap (λ (ends : Ends). meet ends (None, to)) ranged)

in_own : (b : List ℕ) (to : Option (List ℕ)) → is_before to b ≡ true → in_range (Some b, to) b ≡ true
in_own b to before =
    let itself : is_below b b ≡ false = ap is_lt (tied_itself nat_list_cmp_total b) in
    cc

bound_has_part : (region : RegionValue) (from to : Option (List ℕ)) → IsRegion region → IsSome from → are_ends (from, to) ≡ true → HasPart region (from, to)
bound_has_part region None to is some rise = cc
bound_has_part region (Some b) to is some rise = key_has_part region (Some b, to) b is (in_own b to rise)

some_bound : (bounds : Bounds) (n : ℕ) → n < length bounds → IsSome (slice_get bounds n)
some_bound [] n within = absurd (omega (arith, within))
some_bound (b ∷ bounds) zero within = refl
some_bound (b ∷ bounds) (suc n) within = some_bound bounds n (omega (arith, within))

module _ (region : RegionValue) (bounds : Bounds) (lawful : IsLayout bounds) (is : IsRegion region) where
  range_has_part : (n : ℕ) → n ≤ length bounds → HasPart region (tablet_ends bounds n)
  range_has_part zero within =
      first_has_part region (slice_get bounds 0) (slice_get region.tablets 0) is refl (omega (arith, tablet_count region.marks region.layout region.tablets is.tablets))
  range_has_part (suc n) within =
      bound_has_part region (slice_get bounds n) (slice_get bounds (suc n)) is (some_bound bounds n (omega (arith, within))) (ends_in_order bounds (suc n) lawful.rising)

  -- the tablet made for a range that a tablet meets
  made_is : (r : Ends) → HasPart region r → IsTabletOf region.marks r (made_of region.tablets r)
  made_is r part =
      let kept = kept_at (λ (t : TabletStateValue). meet t.range r) region.tablets part.0 part.1 part.2 part.3 in
      let those = ap (entries_that (in_range r)) (all_spelled region is) ∙ sym (table_that (in_range r) (spell (all_cells region))) in
      record {
        range = refl;
        inside = all_that (in_range r) (all_cells region);
        spelled = subst IsSpelled (sym those) (spelled_table _);
        covered =
            least_reaches region.marks (parts_of region.tablets r) kept.0 part.1 kept.1
            (all_kept (λ (t : TabletStateValue). Reaches t.cover region.marks) (λ (t : TabletStateValue). meet t.range r) region.tablets (covers_reach region.marks (ranges region.layout) region.tablets is.tablets));
        reached =
            reached_by_all (parts_of region.tablets r)
            (all_kept (λ (t : TabletStateValue). Reaches t.reach t.cover) (λ (t : TabletStateValue). meet t.range r) region.tablets (reaches_reach region.marks (ranges region.layout) region.tablets is.tablets));
      }

  made_from : (a n : ℕ) → a + n ≤ length bounds + 1 → AreTabletsOf region.marks (map (tablet_ends bounds) (range_with_len a n)) (map (made_of region.tablets) (map (tablet_ends bounds) (range_with_len a n)))
  made_from a zero within = tt
  made_from a (suc n) within = (made_is (tablet_ends bounds a) (range_has_part a (omega (arith, within))), made_from (a + 1) n (omega (arith, within)))

-- the region is one in the new layout
pub relaid_is : (region : RegionValue) (bounds : Bounds) → IsLayout bounds → IsRegion region → IsRegion (with_layout region bounds)
relaid_is region bounds lawful is = record { lawful = lawful; tablets = made_from region bounds lawful is 0 (length bounds + 1) (omega arith) }

-- A change of layout leaves the images that tablets have between the sure ones and others.

module _ (sure maybe : List Image) where
  -- it has such images in its own range
  abbrev Between : TabletStateValue → Type 0
  Between t = HoldsBetween sure maybe t.range t.cells

  abbrev own : (t : TabletStateValue) → Between t → List Image
  own t between = between.0

  each_between : (marks : Positions) (rs : List Ends) (ts : List TabletStateValue) → AreTabletsOf marks rs ts → AllHoldBetween sure maybe rs ts → AllByRecursion Between ts
  each_between marks [] [] are has = tt
  each_between marks [] (t ∷ ts) are has = absurd are
  each_between marks (r ∷ rs) [] are has = absurd are
  each_between marks (r ∷ rs) (t ∷ ts) are has = (subst (λ (range : Ends). HoldsBetween sure maybe range t.cells) (sym are.0.range) has.0, each_between marks rs ts are.1 has.1)

  module _ (region : RegionValue) (is : IsRegion region) (all : AllByRecursion Between region.tablets) where
    abbrev all_own : List Image
    all_own = united Between own region.tablets all

    between : IsBetween sure maybe all_own
    between = record {
      all = λ image there.
          let part = part_at region is (None, None) image.key refl in
          to_united Between own region.tablets all part.1.n part.0 part.1.there image (λ (one : Between part.0). one.1.all image there) part.1.lies;
      no_others = λ image there.
          let of = from_united Between own region.tablets all image there in
          of.is.1.no_others image of.there;
    }

    made_between : (rs : List Ends) → AllHoldBetween sure maybe rs (map (made_of region.tablets) rs)
    made_between [] = tt
    made_between (r ∷ rs) = ((all_own, between, united_cells Between own region all is (λ t one. one.2) r), made_between rs)

pub relaid_between : (region : RegionValue) (bounds : Bounds) (sure maybe : List Image) → IsRegion region → HasBetween sure maybe region → HasBetween sure maybe (with_layout region bounds)
relaid_between region bounds sure maybe is has =
    made_between sure maybe region is (each_between sure maybe region.marks (ranges region.layout) region.tablets is.tablets has) (ranges bounds)

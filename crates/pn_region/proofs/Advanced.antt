-- How many streams all tablets have taken, and regions whose marks advanced.
use Rattle.std.proofs.Common.{◌≡◌, ℕ, zero, suc, ◌+◌, ◌-◌, ◌^◌, ◌<◌, min, Bool, true, false, cond, ◌&&◌, nat_lt, List, [], ◌∷◌, ◌++◌, length, map, take, get_or, slice_get, Option, Some, unwrap_or, is_eq, refl, sym, ap, ◌∙◌, subst, arith, ◌≤◌, if◌then◌else◌, Result, Ok, Err, IsTrue}
use Rattle.std.specs.Prelude.{fold}
use Rattle.std.specs.Int.{from_bool}
use Rattle.std.specs.List.{list_all, filter_map, cons_option}
use Rattle.std.proofs.lemmas.Bool.{and_parts}
use Rattle.std.proofs.lemmas.Bool.Decides.{nat_tests}
use Rattle.std.proofs.lemmas.Cmp.{nat_list_cmp_total, tied_itself}
use Rattle.std.proofs.lemmas.List.{map-append, take_more}
use Rattle.std.specs.Result.{result_map_both}
use Rattle.pn_join.specs.Marks.{is_position, if_position, least_at, least_marks}
use Rattle.pn_join.proofs.LeastFacts.{position_of-least_marks, are_positions-least_marks}
use Rattle.pn_tablet.specs.Steps.{Refuses}
use Rattle.pn_region.specs.Recovery.{least_cover, common_marks, with_marks, after_advance, is_no_advance as is_memory}
use Rattle.pn_region.proofs.Common.{AllByRecursion, eq_by_cmp, find, Positions, name_cmp, position_of, are_positions, TabletStateValue, Reaches, Ends, ranges, RegionValue, AreTabletsOf, IsRegion}
use Rattle.pn_region.proofs.PartMarks.{lesser, least_so_far, with_own, least_more, least_below, least_reaches, covers_reach}
use Rattle.pn_region.specs.Regions.{IsLawfulRegion}
use Rattle.pn_region.specs.declared.fault.AdvanceFault.{AdvanceFault}
use Rattle.pn_region.specs.declared.marking.TheConstants.{MAX_STREAMS}
use Rattle.pn_region.proofs.RoundSteps.{tablet_count}
use Rattle.pn_region.specs.declared.fault.AdvanceFault.TheVariants as fault

-- How many streams all tablets have taken.

-- the marks have a position of the name
abbrev has : Positions → List ℕ → Bool
has marks name = nat_lt 0 (position_of marks name)

-- all tablets have taken the stream
abbrev pub all_have : List TabletStateValue → List ℕ → Bool
all_have ts name = list_all (λ (t : TabletStateValue). has t.cover name) ts

-- how many of the names pass
abbrev pub passing : (List ℕ → Bool) → Positions → ℕ
passing q [] = 0
passing q (e ∷ es) = from_bool (q e.0) + passing q es

-- ---- all names of lawful marks have a position

each_so : (P Q : List ℕ × ℕ → Type 0) → ((e : List ℕ × ℕ) → P e → Q e) → (es : Positions) → AllByRecursion P es → AllByRecursion Q es
each_so P Q so [] all = tt
each_so P Q so (e ∷ es) all = (so e all.0, each_so P Q so es all.1)

still_there : (e : List ℕ × ℕ) (es : Positions) (name : List ℕ) → nat_lt 0 e.1 ≡ true → has es name ≡ true → has (e ∷ es) name ≡ true
still_there e es name some there =
    elim (eq_by_cmp name_cmp name e.0) as (λ b. nat_lt 0 (unwrap_or (cond b (Some e.1) (find name_cmp name es)) 0) ≡ true) [
      | true ↦ some
      | false ↦ there
    ]

each_has : (es : Positions) → are_positions es ≡ true → AllByRecursion (λ (e : List ℕ × ℕ). has es e.0 ≡ true) es
each_has [] are = tt
each_has (e ∷ es) are =
    let parts = and_parts (is_position e.1) (are_positions es) are in
    let some : nat_lt 0 e.1 ≡ true = grind (arith, nat_tests) in (
      ap (λ (b : Bool). nat_lt 0 (unwrap_or (cond b (Some e.1) (find name_cmp e.0 es)) 0)) (ap is_eq (tied_itself nat_list_cmp_total e.0)) ∙ some,
      each_so (λ (f : List ℕ × ℕ). has es f.0 ≡ true) (λ (f : List ℕ × ℕ). has (e ∷ es) f.0 ≡ true) (λ f there. still_there e es f.0 some there) es (each_has es parts.1),
    )

all_pass : (q : List ℕ → Bool) (es : Positions) → AllByRecursion (λ (e : List ℕ × ℕ). q e.0 ≡ true) es → length es ≡ passing q es
all_pass q [] all = refl
all_pass q (e ∷ es) all = omega (arith, ap from_bool all.0, all_pass q es all.1)

-- ---- the names of the least

lt_min : (a b : ℕ) → nat_lt 0 (min a b) ≡ (nat_lt 0 a && nat_lt 0 b)
lt_min a b =
    elim (nat_lt 0 a) as (λ x. nat_lt 0 a ≡ x → nat_lt 0 (min a b) ≡ (x && nat_lt 0 b)) [
      | true ↦ λ some. elim (nat_lt 0 b) as (λ y. nat_lt 0 b ≡ y → nat_lt 0 (min a b) ≡ y) [
        | true ↦ λ some_too. grind (arith, nat_tests)
        | false ↦ λ none. grind (arith, nat_tests)
      ] refl
      | false ↦ λ none. grind (arith, nat_tests)
    ] refl

either_way : (a b c : Bool) → ((a && b) && c) ≡ (a && (b && c))
either_way true b c = refl
either_way false b c = refl

module _ (a b : Positions) where
  -- a name of which the lesser position is 0 is left out
  one_kept : (q : List ℕ → Bool) (e : List ℕ × ℕ) (rest : Positions) (n : ℕ) → (n ≡ 0 → q e.0 ≡ false) → passing q (cons_option (if_position e.0 n) rest) ≡ from_bool (q e.0) + passing q rest
  one_kept q e rest zero none = omega (arith, ap from_bool (none refl))
  one_kept q e rest (suc n) none = refl

  all_kept : (q : List ℕ → Bool) (es : Positions) → ((name : List ℕ) → min (position_of a name) (position_of b name) ≡ 0 → q name ≡ false) → passing q (filter_map (least_at a b) es) ≡ passing q es
  all_kept q [] none = refl
  all_kept q (e ∷ es) none =
      one_kept q e (filter_map (least_at a b) es) (min (position_of a e.0) (position_of b e.0)) (none e.0) ∙ ap (λ n. from_bool (q e.0) + n) (all_kept q es none)

  both_have : (rest : Bool) (name : List ℕ) → (has (least_marks a b) name && rest) ≡ (has a name && (has b name && rest))
  both_have rest name =
      ap (λ n. nat_lt 0 n && rest) (position_of-least_marks a b name)
      ∙ ap (λ x. x && rest) (lt_min (position_of a name) (position_of b name))
      ∙ either_way (has a name) (has b name) rest

  none_have : (rest : Bool) (name : List ℕ) → min (position_of a name) (position_of b name) ≡ 0 → (has a name && (has b name && rest)) ≡ false
  none_have rest name none =
      sym (either_way (has a name) (has b name) rest)
      ∙ ap (λ x. x && rest) (sym (lt_min (position_of a name) (position_of b name)) ∙ ap (nat_lt 0) none)

-- the names of the least are those of the first cover that all have
pub least_names : (cover : Positions) (ts : List TabletStateValue) → are_positions cover ≡ true → length (fold lesser cover ts) ≡ passing (λ name. has cover name && all_have ts name) cover
least_names cover [] are =
    all_pass (λ name. has cover name && true) cover
    (each_so (λ (e : List ℕ × ℕ). has cover e.0 ≡ true) (λ (e : List ℕ × ℕ). (has cover e.0 && true) ≡ true) (λ e there. ap (λ b. b && true) there) cover (each_has cover are))
least_names cover (t ∷ ts) are =
    least_names (least_marks cover t.cover) ts (are_positions-least_marks cover t.cover are)
    ∙ (λ i. passing (λ name. both_have cover t.cover (all_have ts name) name i) (least_marks cover t.cover))
    ∙ all_kept cover t.cover (λ name. has cover name && all_have (t ∷ ts) name) cover (λ name none. none_have cover t.cover (all_have ts name) name none)

-- ---- tablets of which each has a state

module _ {S : Type 0} (tablet : S → TabletStateValue) where
  -- the names that all have, counted among those of the first
  pub first_names : (xs : List S) (x : S) → slice_get xs 0 ≡ Some x → are_positions (tablet x).cover ≡ true → passing (all_have (map tablet xs)) (tablet x).cover ≡ length (least_cover (map tablet xs))
  first_names [] x there are = cc
  first_names (y ∷ xs) x there are =
      let same : x ≡ y = cc in
      subst (λ (z : S). passing (all_have (map tablet (y ∷ xs))) (tablet z).cover ≡ length (least_cover (map tablet (y ∷ xs)))) (sym same)
      (sym (least_names (tablet y).cover (map tablet xs) (ap (λ (z : S). are_positions (tablet z).cover) (sym same) ∙ are)))

  pub have_mapped : (name : List ℕ) (xs : List S) → list_all (λ (x : S). has (tablet x).cover name) xs ≡ all_have (map tablet xs) name
  have_mapped name [] = refl
  have_mapped name (x ∷ xs) = ap (λ b. has (tablet x).cover name && b) (have_mapped name xs)

  -- one more
  mapped_more : (xs : List S) (i : ℕ) (x : S) → i < length xs → x ≡ get_or xs i x → map tablet (take (i + 1) xs) ≡ map tablet (take i xs) ++ tablet x ∷ []
  mapped_more xs i x within is =
      ap (map tablet) (take_more xs i x within) ∙ map-append tablet (take i xs) (get_or xs i x ∷ []) ∙ ap (λ (y : S). map tablet (take i xs) ++ tablet y ∷ []) (sym is)

  pub least_step : (xs : List S) (i : ℕ) (x : S) (own : Option Positions) (both : Positions) → i < length xs → x ≡ get_or xs i x → own ≡ least_so_far (map tablet (take i xs)) → both ≡ with_own own (tablet x).cover
      → Some both ≡ least_so_far (map tablet (take (i + 1) xs))
  least_step xs i x own both within is so_far one =
      ap Some (one ∙ ap (λ (o : Option Positions). with_own o (tablet x).cover) so_far)
      ∙ sym (least_more (map tablet (take i xs)) (tablet x))
      ∙ ap least_so_far (sym (mapped_more xs i x within is))

-- the count so far, and that of the rest, as far as a number goes
pub count_on : (q : List ℕ → Bool) (name : List ℕ) (rest : Positions) (count more new total : ℕ) → more ≡ from_bool (q name) → new ≡ min (count + more) (2 ^ 64 - 1)
    → min (count + (from_bool (q name) + passing q rest)) (2 ^ 64 - 1) ≡ min total (2 ^ 64 - 1) → min (new + passing q rest) (2 ^ 64 - 1) ≡ min total (2 ^ 64 - 1)
count_on q name rest count more new total is added so_far = omega (arith, is, added, so_far)

-- Regions whose marks advanced.

advances_by : (old new : RegionValue) (b : Bool) → result_map_both (with_marks old) (λ why. why) (if b then Err fault.TooManyStreams else Ok (least_cover old.tablets)) ≡ Ok new
    → new ≡ with_marks old (least_cover old.tablets)
advances_by old new true is = cc
advances_by old new false is =
    let same : with_marks old (least_cover old.tablets) ≡ new = cc in
    sym same

-- the marks become the least of the covers
pub advances : (old new : RegionValue) → after_advance old ≡ Ok new → new ≡ with_marks old (least_cover old.tablets)
advances old new is = advances_by old new _ is

-- what is true at each index is true of each
each_there : (P : TabletStateValue → Type 0) (ts : List TabletStateValue) → ((n : ℕ) (t : TabletStateValue) → slice_get ts n ≡ Some t → P t) → AllByRecursion P ts
each_there P [] at = tt
each_there P (t ∷ ts) at = (at 0 t refl, each_there P ts (λ n u there. at (suc n) u there))

-- no cover is below the least
pub all_covered : (ts : List TabletStateValue) → AllByRecursion (λ (t : TabletStateValue). Reaches t.cover (least_cover ts)) ts
all_covered ts = each_there (λ (t : TabletStateValue). Reaches t.cover (least_cover ts)) ts (least_below ts)

-- tablets whose covers reach other marks
pub with_others : (marks others : Positions) (rs : List Ends) (ts : List TabletStateValue) → AreTabletsOf marks rs ts → AllByRecursion (λ (t : TabletStateValue). Reaches t.cover others) ts → AreTabletsOf others rs ts
with_others marks others [] [] are all = tt
with_others marks others [] (t ∷ ts) are all = absurd are
with_others marks others (r ∷ rs) [] are all = absurd are
with_others marks others (r ∷ rs) (t ∷ ts) are all = (
  record { range = are.0.range; inside = are.0.inside; spelled = are.0.spelled; covered = all.0; reached = are.0.reached },
  with_others marks others rs ts are.1 all.1,
)

-- a region stays one
pub advanced_is : (region : RegionValue) → IsRegion region → IsRegion (with_marks region (least_cover region.tablets))
advanced_is region is = record {
  lawful = is.lawful;
  tablets = with_others region.marks (least_cover region.tablets) (ranges region.layout) region.tablets is.tablets (all_covered region.tablets);
}

first_there : (ts : List TabletStateValue) → 0 < length ts → (t : TabletStateValue) × (slice_get ts 0 ≡ Some t)
first_there [] some = absurd (omega (arith, some))
first_there (t ∷ ts) some = (t, refl)

-- marks that all covers reach are not above the least
pub least_of_region : (region : RegionValue) (marks : Positions) → IsRegion region → AllByRecursion (λ (t : TabletStateValue). Reaches t.cover marks) region.tablets → Reaches (least_cover region.tablets) marks
least_of_region region marks is all =
    let first = first_there region.tablets (omega (arith, tablet_count region.marks region.layout region.tablets is.tablets)) in
    least_reaches marks region.tablets 0 first.0 first.1 all

-- so no mark falls
pub marks_rise : (region : RegionValue) → IsRegion region → Reaches (least_cover region.tablets) region.marks
marks_rise region is = least_of_region region region.marks is (covers_reach region.marks (ranges region.layout) region.tablets is.tablets)

common_by : (marks own : Positions) (b : Bool) → (if b then Err fault.TooManyStreams else Ok own) ≡ Ok marks → marks ≡ own
common_by marks own true is = cc
common_by marks own false is =
    let same : own ≡ marks = cc in
    sym same

-- the marks that all have taken are the least of the covers
pub common_is : (ts : List TabletStateValue) (marks : Positions) → common_marks ts ≡ Ok marks → marks ≡ least_cover ts
common_is ts marks is = common_by marks (least_cover ts) _ is

-- a region that has them is lawful
pub advanced_lawful : (region : RegionValue) (marks : Positions) → common_marks region.tablets ≡ Ok marks → length marks ≤ MAX_STREAMS → IsTrue (are_positions marks) → IsLawfulRegion region → IsLawfulRegion (with_marks region marks)
advanced_lawful region marks is few positions lawful = record {
  is_region = subst (λ (others : Positions). IsRegion (with_marks region others)) (sym (common_is region.tablets marks is)) (advanced_is region lawful.is_region);
  are_marks = record { few = few; positions = positions };
}

-- it is the region after its marks advanced
pub advanced_to : (region : RegionValue) (marks : Positions) → common_marks region.tablets ≡ Ok marks → after_advance region ≡ Ok (with_marks region marks)
advanced_to region marks is = ap (result_map_both (with_marks region) (λ why. why)) is

refused_by : (region : RegionValue) (why : AdvanceFault) (right : Result Positions AdvanceFault) → Refuses is_memory why right → Refuses is_memory why (result_map_both (with_marks region) (λ other. other) right)
refused_by region fault.TooManyStreams (Ok marks) right = cc
refused_by region fault.TooManyStreams (Err other) right = ap (result_map_both (with_marks region) (λ why. why)) right
refused_by region fault.Memory (Ok marks) right = refl
refused_by region fault.Memory (Err other) right = cc

-- or why that is refused
pub advance_refused : (region : RegionValue) (why : AdvanceFault) → Refuses is_memory why (common_marks region.tablets) → Refuses is_memory why (after_advance region)
advance_refused region why right = refused_by region why (common_marks region.tablets) right

-- more than 16 streams are refused, and fewer are not
pub too_many : (ts : List TabletStateValue) (count : ℕ) → count ≡ min (length (least_cover ts)) (2 ^ 64 - 1) → MAX_STREAMS < count → common_marks ts ≡ Err fault.TooManyStreams
too_many ts count is many =
    let more : nat_lt MAX_STREAMS (length (least_cover ts)) ≡ true = grind (arith, nat_tests) in
    ap (λ (b : Bool). if b then Err fault.TooManyStreams else Ok (least_cover ts)) more

pub not_too_many : (ts : List TabletStateValue) (count : ℕ) → count ≡ min (length (least_cover ts)) (2 ^ 64 - 1) → count ≤ MAX_STREAMS → common_marks ts ≡ Ok (least_cover ts)
not_too_many ts count is few =
    let within : length (least_cover ts) ≤ MAX_STREAMS = omega (arith, is, few) in
    let no_more : nat_lt MAX_STREAMS (length (least_cover ts)) ≡ false = grind (arith, nat_tests) in
    ap (λ (b : Bool). if b then Err fault.TooManyStreams else Ok (least_cover ts)) no_more

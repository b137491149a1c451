-- A walk over rising entries, and what its looks count for.
use Rattle.std.proofs.Common.{◌≡◌, ℕ, ◌+◌, ◌-◌, ◌*◌, ◌/◌, ◌^◌, ◌<◌, ◌≤◌, ◌⊎◌, inl, inr, Bool, true, false, ◌||◌, cond, List, length, get_or, map, drop, take, min, max, sym, ap, ◌∙◌, arith, Option, None, zero, suc, not, ◌&&◌, [], ◌∷◌, ◌++◌, Some, Less, is_lt, count_by, nat_lt, refl, subst, append-nil, length-append}
use Rattle.std.specs.List.{list_any, sum_by, AllByRecursion}
use Rattle.std.proofs.lemmas.List.{at_drop_more, at_drop_all, get_or-map, length-map, take_all, take-append-le}
use Rattle.std.proofs.lemmas.List.Sums.{sum_by_more, sum_by-cons}
use Rattle.std.specs.Option.{option_map_or}
use Rattle.std.specs.Ordering.{ordering_reverse}
use Rattle.std.proofs.lemmas.Bool.{cases_lt}
use Rattle.std.proofs.lemmas.Bool.Decides.{nat_tests}
use Rattle.std.proofs.lemmas.Cmp.{nat_list_cmp_total}
use Rattle.pn_join.proofs.Rising.{Below, Rising}
use Rattle.pn_record.specs.Limits.{ContentValue}
use Rattle.pn_record.proofs.Sorted.{is_less}
use Rattle.pn_record.specs.Cells.{Entries}
use Rattle.pn_record.specs.Sets.{bytes_cmp, CellValue}
use Rattle.pn_tablet.specs.Layouts.{is_below, is_from, is_before}
use Rattle.pn_scan.specs.Queries.{shows, ConditionValue, QueryValue}
use Rattle.pn_scan.specs.Shown.{condition_bytes, content_work, contents_work, shows_from, units_in, is_after, is_asked, is_shown, has_shown, shown_rows}
use Rattle.pn_scan.specs.Paging.{going_in, work_left, LooksAtMost, spent_in, part_work}
use Rattle.pn_scan.specs.WalkValues.{PartWalkValue}
use Rattle.pn_scan.specs.declared.walk.TabletRows.{TabletRows}
use Rattle.pn_scan.specs.declared.walk.TabletRows.TheVariants.{Done, Rest}

-- What a look counts for, content by content.

-- one condition more
module _ {Y : Type 0} (f : Y → ConditionValue) (ys : List Y) where
  pub bytes_more : (i : ℕ) (y : Y) → y ≡ get_or ys i y → i < length ys → sum_by condition_bytes (take (i + 1) (map f ys)) ≡ sum_by condition_bytes (take i (map f ys)) + condition_bytes (f y)
  bytes_more i y here inside =
      let within : i < length (map f ys) = omega (arith, length-map ys f) in
      let at_i : get_or (map f ys) i (f y) ≡ f y = get_or-map f ys i y (f y) inside ∙ ap f (sym here) in
      sum_by_more condition_bytes (map f ys) i (f y) within ∙ ap (λ (x : ConditionValue). sum_by condition_bytes (take i (map f ys)) + condition_bytes x) at_i

  pub bytes_all : (i : ℕ) → length ys ≤ i → sum_by condition_bytes (take i (map f ys)) ≡ sum_by condition_bytes (map f ys)
  bytes_all i past =
      let short : length (map f ys) ≤ i = omega (arith, past, length-map ys f) in
      ap (λ (l : List ConditionValue). sum_by condition_bytes l) (take_all i (map f ys) short)

-- one content more
module _ (cs : List ConditionValue) (xs : List ContentValue) where
  module _ (i : ℕ) (x : ContentValue) (here : x ≡ get_or xs i x) (inside : i < length xs) where
    show_step : shows_from cs i xs ≡ (shows cs x.0 || shows_from cs (i + 1) xs)
    show_step = at_drop_more (λ (l : List ContentValue). list_any (λ content. shows cs content.0) l) xs i x inside ∙ ap (λ (y : ContentValue). shows cs y.0 || shows_from cs (i + 1) xs) (sym here)

    work_step : contents_work cs (drop i xs) ≡ content_work cs x.0 + cond (shows cs x.0) 0 (contents_work cs (drop (i + 1) xs))
    work_step = at_drop_more (λ (l : List ContentValue). contents_work cs l) xs i x inside ∙ ap (λ (y : ContentValue). content_work cs y.0 + cond (shows cs y.0) 0 (contents_work cs (drop (i + 1) xs))) (sym here)

    pub one_shows : shows cs x.0 ≡ true → true ≡ shows_from cs i xs
    one_shows meets = sym (show_step ∙ ap (λ b. b || shows_from cs (i + 1) xs) meets)

    pub one_hides : shows cs x.0 ≡ false → shows_from cs (i + 1) xs ≡ shows_from cs i xs
    one_hides differs = sym (show_step ∙ ap (λ b. b || shows_from cs (i + 1) xs) differs)

    pub work_shown : shows cs x.0 ≡ true → contents_work cs (drop i xs) ≡ content_work cs x.0 + 0
    work_shown meets = work_step ∙ ap (λ b. content_work cs x.0 + cond b 0 (contents_work cs (drop (i + 1) xs))) meets

    pub work_hidden : shows cs x.0 ≡ false → contents_work cs (drop i xs) ≡ content_work cs x.0 + contents_work cs (drop (i + 1) xs)
    work_hidden differs = work_step ∙ ap (λ b. content_work cs x.0 + cond b 0 (contents_work cs (drop (i + 1) xs))) differs

  pub none_shows : (i : ℕ) → length xs ≤ i → false ≡ shows_from cs i xs
  none_shows i past = sym (at_drop_all (λ (l : List ContentValue). list_any (λ content. shows cs content.0) l) xs i past)

  pub no_work : (i : ℕ) → length xs ≤ i → contents_work cs (drop i xs) ≡ 0
  no_work i past = at_drop_all (λ (l : List ContentValue). contents_work cs l) xs i past

-- a look that stopped had compared something, where it began with nothing compared
pub went_on : (from index done was : ℕ) → (from < index) ⊎ (done ≡ was) → 1 < done → was ≤ 1 → from < index
went_on from index done was (inl less) some few = less
went_on from index done was (inr same) some few = absurd (omega (arith, same, some, few))

-- units are no more than the work and one
pub units_few : (work : ℕ) → 32 * units_in work < work + 32
units_few work = omega arith

-- nor less, where they have 32 bits
pub units_cover : (work : ℕ) → work ≤ 32 * (2 ^ 32 - 1) → work ≤ 32 * units_in work
units_cover work few = omega (arith, few)

-- What the steps of a page count for.

-- a look was resumed
pub counted_on : (query : QueryValue) (most all first left units : ℕ) (now : Option PartWalkValue) (was : PartWalkValue) (part : TabletRows) → left ≡ part_work query was → most ≤ all → most ≤ 32 * (2 ^ 32 - 1)
    → LooksAtMost query most was part → now ≡ going_in part → units ≡ units_in (spent_in most part)
    → (32 * units < max all first + 32) × ((left ≤ work_left query now + 32 * units) ⊎ (now ≡ None))
counted_on query most all first left units now was (Done rows others spent) same within bits few is counts =
    (omega (arith, ap (λ n. 32 * n) counts, units_few spent, few, within), inr is)
counted_on query most all first left units now was (Rest walk) same within bits few is counts = (
  omega (arith, ap (λ n. 32 * n) counts, units_few most, within),
  inl (omega (arith, ap (λ n. 32 * n) counts, units_cover most bits, same, few, ap (work_left query) is)),
)

-- a look was begun
pub counted_first : (query : QueryValue) (most first left units : ℕ) (now : Option PartWalkValue) (part : TabletRows) → left ≡ 0 → units ≡ units_in (spent_in most part) → spent_in first part ≤ first
    → (32 * units < max most first + 32) × ((left ≤ work_left query now + 32 * units) ⊎ (now ≡ None))
counted_first query most first left units now (Done rows others spent) none counts few = (omega (arith, ap (λ n. 32 * n) counts, units_few spent, few), inl (omega (arith, none)))
counted_first query most first left units now (Rest walk) none counts few = (omega (arith, ap (λ n. 32 * n) counts, units_few most), inl (omega (arith, none)))

-- A walk over rising entries, from the first that may be shown to the end of the keys that are asked for.

pub and_mid : (a b c : Bool) → b ≡ false → (a && b && c) ≡ false
and_mid true b c p = ap (λ x. x && c) p
and_mid false b c p = refl

pub and_first : (a b c : Bool) → a ≡ false → (a && b && c) ≡ false
and_first a b c p = ap (λ x. x && b && c) p

and_last : (a b c : Bool) → c ≡ false → (a && b && c) ≡ false
and_last true true c p = p
and_last true false c p = refl
and_last false b c p = refl

both_hold : (a b c : Bool) → a ≡ true → b ≡ true → c ≡ (a && b && c)
both_hold true true c p q = refl
both_hold true false c p q = cc
both_hold false b c p q = cc

-- between the ends, what is left to look at is `after` and the contents
pub within_ends : (q : QueryValue) (e : List ℕ × CellValue) → is_from q.from e.0 ≡ true → is_before q.to e.0 ≡ true → (is_after q.after e.0 && has_shown q.conditions e.1) ≡ is_shown q e
within_ends q e from to = ap (λ b. b && has_shown q.conditions e.1) (both_hold (is_from q.from e.0) (is_before q.to e.0) (is_after q.after e.0) from to)

pub not_asked : (q : QueryValue) (e : List ℕ × CellValue) → is_asked q e.0 ≡ false → is_shown q e ≡ false
not_asked q e outside = ap (λ b. b && has_shown q.conditions e.1) outside

-- a record that is shown, and one that is not
pub shown_first : (q : QueryValue) (e : List ℕ × CellValue) (es : Entries) → is_shown q e ≡ true → shown_rows q (e ∷ es) ≡ e ∷ shown_rows q es
shown_first q e es shown = ap (λ b. cond b (e ∷ shown_rows q es) (shown_rows q es)) shown

pub hidden_first : (q : QueryValue) (e : List ℕ × CellValue) (es : Entries) → is_shown q e ≡ false → shown_rows q (e ∷ es) ≡ shown_rows q es
hidden_first q e es hidden = ap (λ b. cond b (e ∷ shown_rows q es) (shown_rows q es)) hidden

-- a key above one that is not below the end is not below it either
pub past_end : (to : Option (List ℕ)) (key other : List ℕ) → bytes_cmp key other ≡ Less → is_before to key ≡ false → is_before to other ≡ false
past_end None key other rises past = past
past_end (Some to) key other rises past =
    elim (is_below other to) as (λ b. is_below other to ≡ b → b ≡ false) [
      | true ↦ λ p. let there : is_below key to ≡ true = ap is_lt (nat_list_cmp_total.trans key other to rises (is_less (bytes_cmp other to) p)) in sym there ∙ past
      | false ↦ λ p. refl
    ] refl

none_later : (q : QueryValue) (key : List ℕ) (es : Entries) → is_before q.to key ≡ false → Below bytes_cmp key es → shown_rows q es ≡ []
none_later q key [] past below = refl
none_later q key (e ∷ es) past below =
    hidden_first q e es (not_asked q e (and_mid (is_from q.from e.0) _ (is_after q.after e.0) (past_end q.to key e.0 below.0 past)))
    ∙ none_later q key es past below.1

-- past the end none is shown
pub none_past : (q : QueryValue) (e : List ℕ × CellValue) (es : Entries) → is_before q.to e.0 ≡ false → Rising bytes_cmp (e ∷ es) → shown_rows q (e ∷ es) ≡ []
none_past q e es past rising =
    hidden_first q e es (not_asked q e (and_mid (is_from q.from e.0) _ (is_after q.after e.0) past)) ∙ none_later q e.0 es past rising.0

-- the keys that are less than a key
abbrev pub lesser : List ℕ → Entries → ℕ
lesser key es = count_by (λ e. is_below e.0 key) es

lesser-cons : (key : List ℕ) (e : List ℕ × CellValue) (es : Entries) (b : Bool) → is_below e.0 key ≡ b → lesser key (e ∷ es) ≡ cond b 1 0 + lesser key es
lesser-cons key e es b is = sum_by-cons _ e es ∙ ap (λ t. cond t 1 0 + lesser key es) is

none_lesser : (key low : List ℕ) (es : Entries) → is_below low key ≡ false → Below bytes_cmp low es → lesser key es ≡ 0
none_lesser key low [] above below = refl
none_lesser key low (e ∷ es) above below =
    let above_too : is_below e.0 key ≡ false = past_end (Some key) low e.0 below.0 above in
    omega (arith, lesser-cons key e es false above_too, none_lesser key low es above below.1)

-- where no key less than this one is shown, the walk may begin at it
pub begin_past : (q : QueryValue) (key : List ℕ) (es : Entries) (n : ℕ) → ((e : List ℕ × CellValue) → is_below e.0 key ≡ true → is_shown q e ≡ false)
    → Rising bytes_cmp es → n ≤ lesser key es → shown_rows q (drop n es) ≡ shown_rows q es
begin_past q key es zero hidden rising few = refl
begin_past q key [] (suc n) hidden rising few = refl
begin_past q key (e ∷ es) (suc n) hidden rising few =
    elim (is_below e.0 key) as (λ b. is_below e.0 key ≡ b → shown_rows q (drop n es) ≡ shown_rows q (e ∷ es)) [
      | true ↦ λ p. begin_past q key es n hidden rising.1 (omega (arith, lesser-cons key e es true p)) ∙ sym (hidden_first q e es (hidden e p))
      | false ↦ λ p. absurd (omega (arith, few, lesser-cons key e es false p, none_lesser key e.0 es p rising.0))
    ] refl

-- the number of keys that are less than a key, 0 where there is no key
abbrev pub lesser_at : Option (List ℕ) → Entries → ℕ
lesser_at end es = option_map_or (λ key. lesser key es) end 0

begin_from : (q : QueryValue) (es : Entries) → Rising bytes_cmp es → (end : Option (List ℕ)) → q.from ≡ end → shown_rows q (drop (lesser_at end es) es) ≡ shown_rows q es
begin_from q es rising None is = refl
begin_from q es rising (Some from) is =
    begin_past q from es (lesser from es) (λ e p. not_asked q e (and_first _ (is_before q.to e.0) (is_after q.after e.0) (ap (λ o. is_from o e.0) is ∙ ap not p))) rising (omega arith)

pub below_not : (a b : List ℕ) → is_below a b ≡ true → is_below b a ≡ false
below_not a b p = ap is_lt (nat_list_cmp_total.antisymm b a ∙ ap ordering_reverse (is_less (bytes_cmp a b) p))

begin_after : (q : QueryValue) (es : Entries) → Rising bytes_cmp es → (end : Option (List ℕ)) → q.after ≡ end → shown_rows q (drop (lesser_at end es) es) ≡ shown_rows q es
begin_after q es rising None is = refl
begin_after q es rising (Some after) is =
    begin_past q after es (lesser after es) (λ e p. not_asked q e (and_last (is_from q.from e.0) (is_before q.to e.0) _ (ap (λ o. is_after o e.0) is ∙ below_not e.0 after p))) rising (omega arith)

greater_of : (m n : ℕ) (P : ℕ → Type 0) → P m → P n → P (max m n)
greater_of m n P at_m at_n =
    elim (cases_lt m n) [
      | inl less ↦ let e : n ≡ max m n = omega arith in subst P e at_n
      | inr more ↦ let e : m ≡ max m n = omega arith in subst P e at_m
    ]

-- before the greater of the two indices none is shown
pub begin_there : (q : QueryValue) (es : Entries) (a b : ℕ) → Rising bytes_cmp es → a ≡ lesser_at q.from es → b ≡ lesser_at q.after es → shown_rows q (drop (max a b) es) ≡ shown_rows q es
begin_there q es a b rising is_a is_b =
    greater_of a b (λ n. shown_rows q (drop n es) ≡ shown_rows q es)
    (ap (λ n. shown_rows q (drop n es)) is_a ∙ begin_from q es rising q.from refl)
    (ap (λ n. shown_rows q (drop n es)) is_b ∙ begin_after q es rising q.after refl)

-- no key is below the end
abbrev pub NoneBelow : Option (List ℕ) → Entries → Type 0
NoneBelow end es = AllByRecursion (λ e. is_from end e.0 ≡ true) es

pub open_below : (es : Entries) → NoneBelow None es
open_below [] = tt
open_below (e ∷ es) = (refl, open_below es)

from_index : (key : List ℕ) (es : Entries) (n : ℕ) → Rising bytes_cmp es → lesser key es ≤ n → NoneBelow (Some key) (drop n es)
from_index key [] zero rising past = tt
from_index key [] (suc n) rising past = tt
from_index key (e ∷ es) zero rising past =
    elim (is_below e.0 key) as (λ b. is_below e.0 key ≡ b → NoneBelow (Some key) (e ∷ es)) [
      | true ↦ λ p. absurd (omega (arith, past, lesser-cons key e es true p))
      | false ↦ λ p. (ap not p, from_index key es zero rising.1 (omega (arith, past, lesser-cons key e es false p)))
    ] refl
from_index key (e ∷ es) (suc n) rising past =
    elim (is_below e.0 key) as (λ b. is_below e.0 key ≡ b → NoneBelow (Some key) (drop n es)) [
      | true ↦ λ p. from_index key es n rising.1 (omega (arith, past, lesser-cons key e es true p))
      | false ↦ λ p. from_index key es n rising.1 (omega (arith, none_lesser key e.0 es p rising.0))
    ] refl

-- at the index of an end, or after it, no key is below the end
pub from_there : (end : Option (List ℕ)) (es : Entries) (n : ℕ) → Rising bytes_cmp es → lesser_at end es ≤ n → NoneBelow end (drop n es)
from_there None es n rising past = open_below (drop n es)
from_there (Some key) es n rising past = from_index key es n rising past

-- the rows that were found are the first, and whether there are more
module _ {A : Type 0} where
  pub all_found : (rows all : List A) (room : ℕ) → rows ++ [] ≡ all → length rows ≤ room → (rows ≡ take room all) × (false ≡ nat_lt room (length all))
  all_found rows all room is few =
      let same : rows ≡ all = sym (append-nil rows) ∙ is in
      let size = ap (λ (l : List A). length l) same in
      let short : length all ≤ room = omega arith in
      (same ∙ sym (take_all room all short), grind (arith, nat_tests))

  pub more_found : (rows : List A) (row : A) (more all : List A) (room : ℕ) → rows ++ row ∷ more ≡ all → length rows ≡ room → (rows ≡ take room all) × (true ≡ nat_lt room (length all))
  more_found rows row more all room is full =
      let size : length rows + suc (length more) ≡ length all = sym (length-append rows (row ∷ more)) ∙ ap (λ (l : List A). length l) is in
      let front : take room (rows ++ row ∷ more) ≡ take room rows = take-append-le room rows (row ∷ more) (omega arith) in
      (sym (take_all room rows (omega arith)) ∙ sym front ∙ ap (λ (l : List A). take room l) is, grind (arith, nat_tests))

-- what is left of rising entries rises
pub rising_drop : (n : ℕ) (es : Entries) → Rising bytes_cmp es → Rising bytes_cmp (drop n es)
rising_drop zero es rising = rising
rising_drop (suc n) [] rising = rising
rising_drop (suc n) (e ∷ es) rising = rising_drop n es rising.1

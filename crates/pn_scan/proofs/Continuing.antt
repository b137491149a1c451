-- Looks into tablets whose numbers follow one another, and a continuation asks for the rows after the page.
use Rattle.std.proofs.Common.{◌≡◌, ℕ, zero, suc, ◌+◌, ◌<◌, ◌≤◌, Bool, true, false, cond, List, [], ◌∷◌, ◌++◌, length, take, nat_lt, nat_le, refl, sym, ap, ◌∙◌, subst, arith, append-nil, append_assoc, length-append, ◌&&◌, drop, Option, Some, None, Ordering, Less, Equal, Greater, is_lt}
use Rattle.std.specs.Prelude.{filter}
use Rattle.std.specs.List.{list_all, range_with_len, last_or}
use Rattle.std.proofs.Math.Seq.{take-append_seam}
use Rattle.std.proofs.lemmas.Bool.Decides.{nat_tests}
use Rattle.std.proofs.lemmas.List.Elements.{filter-append, filter_agree}
use Rattle.std.specs.Ordering.{ordering_reverse}
use Rattle.std.proofs.lemmas.Cmp.{nat_list_cmp_total}
use Rattle.std.proofs.lemmas.List.{take-append-drop}
use Rattle.pn_join.proofs.Rising.{Below, Rising, Below-prefix}
use Rattle.pn_record.proofs.Sorted.{both_true, first_true, second_true, is_less}
use Rattle.pn_record.specs.Cells.{Entries}
use Rattle.pn_record.specs.Sets.{bytes_cmp, CellValue}
use Rattle.pn_tablet.specs.Layouts.{Bounds, is_below, is_from, is_before}
use Rattle.pn_scan.specs.Queries.{QueryValue, query_after}
use Rattle.pn_scan.specs.Pages.{Look, is_candidate, candidates, rows_in, looks_below, is_visited, candidates_of, visited}
use Rattle.pn_scan.specs.Shown.{is_after, is_shown, has_shown, shown_rows}

-- Looks into tablets whose numbers follow one another.

-- the numbers of the tablets count up from one
abbrev pub Numbered : ℕ → List Look → Type 0
Numbered n [] = Unit {0}
Numbered n (look ∷ looks) = (look.0 ≡ n) × Numbered (n + 1) looks

lt_true : (m n : ℕ) → m < n → nat_lt m n ≡ true
lt_true m n less = grind (arith, nat_tests)

lt_false : (m n : ℕ) → n ≤ m → nat_lt m n ≡ false
lt_false m n more = grind (arith, nat_tests)

le_true : (m n : ℕ) → m ≤ n → nat_le m n ≡ true
le_true m n le = grind (arith, nat_tests)

none_below : (t n : ℕ) (looks : List Look) → t ≤ n → Numbered n looks → looks_below t looks ≡ []
none_below t n [] le numbered = refl
none_below t n (l ∷ ls) le numbered =
    ap (λ b. cond b (l ∷ looks_below t ls) (looks_below t ls)) (lt_false l.0 t (omega (arith, numbered.0))) ∙ none_below t (n + 1) ls (omega arith) numbered.1

all_below : (t n : ℕ) (looks : List Look) → n + length looks ≤ t → Numbered n looks → looks_below t looks ≡ looks
all_below t n [] le numbered = refl
all_below t n (l ∷ ls) le numbered =
    ap (λ b. cond b (l ∷ looks_below t ls) (looks_below t ls)) (lt_true l.0 t (omega (arith, numbered.0)))
    ∙ ap (λ more. l ∷ more) (all_below t (n + 1) ls (omega arith) numbered.1)

pub numbered_split : (n : ℕ) (front back : List Look) → Numbered n (front ++ back) → Numbered n front × Numbered (n + length front) back
numbered_split n [] back numbered = let e : n ≡ n + 0 = omega arith in (tt, subst (λ m. Numbered m back) e numbered)
numbered_split n (l ∷ ls) back numbered =
    let rest = numbered_split (n + 1) ls back numbered.1 in
    let e : (n + 1) + length ls ≡ n + suc (length ls) = omega arith in
    ((numbered.0, rest.0), subst (λ m. Numbered m back) e rest.1)

-- the tablets below one are those before it
pub below_here : (n : ℕ) (front : List Look) (look : Look) (back : List Look) → Numbered n (front ++ look ∷ back) → looks_below look.0 (front ++ look ∷ back) ≡ front
below_here n front look back numbered =
    let parts = numbered_split n front (look ∷ back) numbered in
    filter-append (λ (other : Look). nat_lt other.0 look.0) front (look ∷ back)
    ∙ (λ i. all_below look.0 n front (omega (arith, parts.1.0)) parts.0 i ++ none_below look.0 (n + length front) (look ∷ back) (omega (arith, parts.1.0)) parts.1 i)
    ∙ append-nil front

abbrev Few : QueryValue → List Look → Type 0
Few query looks = length (rows_in query looks) ≤ query.limit

abbrev pub AllFew : QueryValue → List Look → Type 0
AllFew query looks = (k : ℕ) → k < length looks → Few query (take k looks)

each_visited : (query : QueryValue) (n : ℕ) (front back : List Look) → Numbered n (front ++ back) → AllFew query (front ++ back) → list_all (is_visited query (front ++ back)) back ≡ true
each_visited query n front [] numbered few = refl
each_visited query n front (look ∷ back) numbered few =
    let short : length front < length (front ++ look ∷ back) = omega (arith, length-append front (look ∷ back)) in
    let before : take (length front) (front ++ look ∷ back) ≡ looks_below look.0 (front ++ look ∷ back) = take-append_seam front (look ∷ back) ∙ sym (below_here n front look back numbered) in
    let here : Few query (looks_below look.0 (front ++ look ∷ back)) = subst (Few query) before (few (length front) short) in
    let same : (front ++ look ∷ []) ++ back ≡ front ++ look ∷ back = append_assoc front (look ∷ []) back in
    let rest = each_visited query n (front ++ look ∷ []) back (subst (Numbered n) (sym same) numbered) (subst (AllFew query) (sym same) few) in
    both_true _ _ (le_true _ query.limit here) (subst (λ (all : List Look). list_all (is_visited query all) back ≡ true) same rest)

module _ {X : Type 0} (p : X → Bool) where
  pub keeps_all : (xs : List X) → list_all p xs ≡ true → filter p xs ≡ xs
  keeps_all [] all = refl
  keeps_all (x ∷ xs) all =
      ap (λ b. cond b (x ∷ filter p xs) (filter p xs)) (first_true (p x) (list_all p xs) all) ∙ ap (λ l. x ∷ l) (keeps_all xs (second_true (p x) (list_all p xs) all))

  pub kept_pass : (xs : List X) → list_all p (filter p xs) ≡ true
  kept_pass [] = refl
  kept_pass (x ∷ xs) =
      elim (p x) as (λ b. p x ≡ b → list_all p (cond b (x ∷ filter p xs) (filter p xs)) ≡ true) [
        | true ↦ λ is. both_true _ _ is (kept_pass xs)
        | false ↦ λ is. kept_pass xs
      ] refl

passed : (p : ℕ → Bool) (n len : ℕ) (looks : List Look) → list_all p (range_with_len n len) ≡ true → length looks ≤ len → Numbered n looks → list_all (λ look. p look.0) looks ≡ true
passed p n len [] all le numbered = refl
passed p n zero (l ∷ ls) all le numbered = absurd (omega arith)
passed p n (suc len) (l ∷ ls) all le numbered =
    both_true _ _ (ap p numbered.0 ∙ first_true (p n) (list_all p (range_with_len (n + 1) len)) all) (passed p (n + 1) len ls (second_true (p n) (list_all p (range_with_len (n + 1) len)) all) (omega arith) numbered.1)

-- all looks into candidates, from the first on, are visits, where those before each show few rows
pub all_visited : (bounds : Bounds) (query : QueryValue) (n len : ℕ) (seen : List Look) → candidates bounds query ≡ range_with_len n len → length seen ≤ len → Numbered n seen → AllFew query seen
    → visited bounds query seen ≡ seen
all_visited bounds query n len seen range le numbered few =
    let pass : list_all (is_candidate bounds query) (range_with_len n len) ≡ true = ap (list_all (is_candidate bounds query)) (sym range) ∙ kept_pass (is_candidate bounds query) (range_with_len 0 (length bounds + 1)) in
    let mine : candidates_of bounds query seen ≡ seen = keeps_all (λ (look : Look). is_candidate bounds query look.0) seen (passed (is_candidate bounds query) n len seen pass le numbered) in
    ap (λ (l : List Look). filter (is_visited query l) l) mine ∙ keeps_all (is_visited query seen) seen (each_visited query n [] seen numbered few)

-- A continuation asks for the rows after the page.

abbrev pub Row : Type 0
Row = List ℕ × CellValue

-- rows above a key
abbrev above : List ℕ → Row → Bool
above key row = is_below key row.0

not_above : (low high : List ℕ) → bytes_cmp low high ≡ Less → is_below high low ≡ false
not_above low high rises = ap is_lt (nat_list_cmp_total.antisymm high low ∙ ap ordering_reverse rises)

not_turned : (o : Ordering) → o ≡ ordering_reverse o → is_lt o ≡ false
not_turned Less turned = cc
not_turned Equal turned = refl
not_turned Greater turned = refl

not_itself : (key : List ℕ) → is_below key key ≡ false
not_itself key = not_turned (bytes_cmp key key) (nat_list_cmp_total.antisymm key key)

all_above : (key : List ℕ) (rows : Entries) → Below bytes_cmp key rows → list_all (above key) rows ≡ true
all_above key [] rises = refl
all_above key (row ∷ rows) rises = both_true _ _ (ap is_lt rises.0) (all_above key rows rises.1)

-- the last of rows above a key is above it
pub last_above : (key : List ℕ) (first : Row) (rows : Entries) (row : Row) → Below bytes_cmp key (first ∷ rows) → last_or (Some first) rows ≡ Some row → bytes_cmp key row.0 ≡ Less
last_above key first [] row rises is = let same : first ≡ row = cc in ap (λ (r : Row). bytes_cmp key r.0) (sym same) ∙ rises.0
last_above key first (next ∷ rows) row rises is = last_above key next rows row rises.1 is

kept_none : (key : List ℕ) (first : Row) (rows : Entries) → is_below key first.0 ≡ false → filter (above key) (first ∷ rows) ≡ filter (above key) rows
kept_none key first rows low = ap (λ b. cond b (first ∷ filter (above key) rows) (filter (above key) rows)) low

after_from : (first : Row) (rows back : Entries) (row : Row) → Rising bytes_cmp (first ∷ rows ++ back) → last_or (Some first) rows ≡ Some row → filter (above row.0) (first ∷ rows ++ back) ≡ back
after_from first [] back row rises is =
    let same : first ≡ row = cc in
    subst (λ (r : Row). filter (above r.0) (first ∷ back) ≡ back) same
    (kept_none first.0 first back (not_itself first.0) ∙ keeps_all (above first.0) back (all_above first.0 back rises.0))
after_from first (next ∷ rows) back row rises is =
    kept_none row.0 first (next ∷ rows ++ back) (not_above first.0 row.0 (last_above first.0 next rows row (Below-prefix bytes_cmp first.0 (next ∷ rows) back rises.0) is))
    ∙ after_from next rows back row rises.1 is

-- the rows above the last of the first rows are those after it
pub after_last : (front back : Entries) (row : Row) → Rising bytes_cmp (front ++ back) → last_or None front ≡ Some row → filter (above row.0) (front ++ back) ≡ back
after_last [] back row rises is = cc
after_last (first ∷ rows) back row rises is = after_from first rows back row rises is

-- rows that a test keeps rise
below_kept : (p : Row → Bool) (key : List ℕ) (rows : Entries) → Below bytes_cmp key rows → Below bytes_cmp key (filter p rows)
below_kept p key [] rises = tt
below_kept p key (row ∷ rows) rises =
    elim (p row) as (λ b. Below bytes_cmp key (cond b (row ∷ filter p rows) (filter p rows))) [
      | true ↦ (rises.0, below_kept p key rows rises.1)
      | false ↦ below_kept p key rows rises.1
    ]

pub rising_kept : (p : Row → Bool) (rows : Entries) → Rising bytes_cmp rows → Rising bytes_cmp (filter p rows)
rising_kept p [] rises = tt
rising_kept p (row ∷ rows) rises =
    elim (p row) as (λ b. Rising bytes_cmp (cond b (row ∷ filter p rows) (filter p rows))) [
      | true ↦ (below_kept p row.0 rows rises.0, rising_kept p rows rises.1)
      | false ↦ rising_kept p rows rises.1
    ]

-- the last of rows that all pass a test passes it
last_passes : (p : Row → Bool) (first : Row) (rows : Entries) (row : Row) → list_all p (first ∷ rows) ≡ true → last_or (Some first) rows ≡ Some row → p row ≡ true
last_passes p first [] row all is = let same : first ≡ row = cc in ap p (sym same) ∙ first_true (p first) true all
last_passes p first (next ∷ rows) row all is = last_passes p next rows row (second_true (p first) (list_all p (next ∷ rows)) all) is

all_front : (p : Row → Bool) (n : ℕ) (rows : Entries) → list_all p rows ≡ true → list_all p (take n rows) ≡ true
all_front p zero rows all = refl
all_front p (suc n) [] all = refl
all_front p (suc n) (row ∷ rows) all = both_true _ _ (first_true (p row) (list_all p rows) all) (all_front p n rows (second_true (p row) (list_all p rows) all))

last_shown : (query : QueryValue) (front : Entries) (row : Row) → list_all (is_shown query) front ≡ true → last_or None front ≡ Some row → is_shown query row ≡ true
last_shown query [] row all is = cc
last_shown query (first ∷ rows) row all is = last_passes (is_shown query) first rows row all is

pub third_true : (a b c d : Bool) → ((a && b && c) && d) ≡ true → c ≡ true
third_true true true true d h = refl
third_true true true false d h = h
third_true true false c d h = cc
third_true false b c d h = cc

-- a key above one that is asked for is above what that one is above
pub after_too : (after : Option (List ℕ)) (key other : List ℕ) → is_after after key ≡ true → is_below key other ≡ true → is_after after other ≡ true
after_too None key other asked higher = refl
after_too (Some after) key other asked higher = ap is_lt (nat_list_cmp_total.trans after key other (is_less (bytes_cmp after key) asked) (is_less (bytes_cmp key other) higher))

-- the tests of a continuation, by those of the query
mixed : (a b c x d : Bool) → (x ≡ true → c ≡ true) → ((a && b && x) && d) ≡ (x && ((a && b && c) && d))
mixed a b c true d implies = ap (λ t. (a && b && t) && d) (sym (implies refl))
mixed true true c false d implies = refl
mixed true false c false d implies = refl
mixed false b c false d implies = refl

continued_shown : (query : QueryValue) (key : List ℕ) (row : Row) → is_after query.after key ≡ true → is_shown (query_after query key) row ≡ (above key row && is_shown query row)
continued_shown query key row asked =
    mixed (is_from query.from row.0) (is_before query.to row.0) (is_after query.after row.0) (is_below key row.0) (has_shown query.conditions row.1) (after_too query.after key row.0 asked)

both_kept : (p q : Row → Bool) (rows : Entries) → filter (λ row. p row && q row) rows ≡ filter p (filter q rows)
both_kept p q [] = refl
both_kept p q (row ∷ rows) =
    elim (q row) as (λ b. cond (p row && b) (row ∷ filter (λ row. p row && q row) rows) (filter (λ row. p row && q row) rows) ≡ filter p (cond b (row ∷ filter q rows) (filter q rows))) [
      | true ↦ elim (p row) as (λ a. cond (a && true) (row ∷ filter (λ row. p row && q row) rows) (filter (λ row. p row && q row) rows) ≡ cond a (row ∷ filter p (filter q rows)) (filter p (filter q rows))) [
        | true ↦ ap (λ (l : Entries). row ∷ l) (both_kept p q rows)
        | false ↦ both_kept p q rows
      ]
      | false ↦ elim (p row) as (λ a. cond (a && false) (row ∷ filter (λ row. p row && q row) rows) (filter (λ row. p row && q row) rows) ≡ filter p (filter q rows)) [
        | true ↦ both_kept p q rows
        | false ↦ both_kept p q rows
      ]
    ]

-- the continuation after the first rows shows the others
pub shown_after : (query : QueryValue) (cells : Entries) (n : ℕ) (row : Row) → Rising bytes_cmp cells → last_or None (take n (shown_rows query cells)) ≡ Some row
    → shown_rows (query_after query row.0) cells ≡ drop n (shown_rows query cells)
shown_after query cells n row rises is =
    let rows = shown_rows query cells in
    let shown = last_shown query (take n rows) row (all_front (is_shown query) n rows (kept_pass (is_shown query) cells)) is in
    let asked : is_after query.after row.0 ≡ true = third_true (is_from query.from row.0) (is_before query.to row.0) (is_after query.after row.0) (has_shown query.conditions row.1) shown in
    let parts : take n rows ++ drop n rows ≡ rows = take-append-drop n rows in
    filter_agree (is_shown (query_after query row.0)) (λ other. above row.0 other && is_shown query other) (λ other. continued_shown query row.0 other asked) cells
    ∙ both_kept (above row.0) (is_shown query) cells
    ∙ ap (filter (above row.0)) (sym parts)
    ∙ after_last (take n rows) (drop n rows) row (subst (Rising bytes_cmp) (sym parts) (rising_kept (is_shown query) cells rises)) is

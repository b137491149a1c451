-- Keys that pass the tests of a range, how many do, and that their cells are a slice of all.
use Rattle.std.proofs.Common.{◌≡◌, ℕ, suc, ◌+◌, ◌≤◌, Bool, true, false, ◌&&◌, cond, eqb, List, [], ◌∷◌, length, count_by, refl, ap, ◌∙◌, arith, zero-add, one-add, Option, None, sym, ◌-◌, not, take, drop, slice_range, filter, Some, Less, IsTrue}
use Rattle.std.specs.List.{list_all}
use Rattle.std.proofs.lemmas.List.Sums.{count_by-le-length, sum_by-cons}
use Rattle.std.proofs.lemmas.Bool.Decides.{nat_tests}
use Rattle.std.proofs.lemmas.Cmp.{nat_list_cmp_total}
use Rattle.std.specs.FinMap.{is_sorted}
use Rattle.std.specs.Ordering.{is_lt}
use Rattle.pn_join.proofs.Rising.{Below, Rising, Rising-from_sorted}
use Rattle.pn_record.specs.Cells.{Entries}
use Rattle.pn_record.specs.Sets.{bytes_cmp, CellValue}
use Rattle.pn_record.proofs.Sorted.{is_less}
use Rattle.pn_tablet.specs.Layouts.{Ends, is_from, is_before, is_below, in_range, are_ends}
use Rattle.pn_tablet.specs.Tablets.{lie_in}

-- Tests of all items of a list, and how many pass.

both_first : (a b c d : Bool) → ((a && b) && (c && d)) ≡ ((a && c) && (b && d))
both_first true true c d = refl
both_first true false true d = refl
both_first true false false d = refl
both_first false b c d = refl

same_next : (n l : ℕ) → eqb (suc n) (suc l) ≡ eqb n l
same_next n l = grind (arith, nat_tests)

not_same : (n l : ℕ) → n ≤ l → eqb n (suc l) ≡ false
not_same n l below = grind (arith, nat_tests)

counted_first : (b : Bool) (n l : ℕ) (rest : Bool) → n ≤ l → eqb n l ≡ rest → eqb (cond b 1 0 + n) (suc l) ≡ (b && rest)
counted_first true n l rest below same = ap (λ m. eqb m (suc l)) (one-add n) ∙ same_next n l ∙ same
counted_first false n l rest below same = ap (λ m. eqb m (suc l)) (zero-add n) ∙ not_same n l below

module _ {X : Type 0} where
  -- a test that everything passes
  pub all_pass : (xs : List X) → true ≡ list_all (λ _. true) xs
  all_pass [] = refl
  all_pass (x ∷ xs) = all_pass xs

  -- all pass both tests where all pass each
  pub all_both : (p q : X → Bool) (xs : List X) → (list_all p xs && list_all q xs) ≡ list_all (λ x. p x && q x) xs
  all_both p q [] = refl
  all_both p q (x ∷ xs) = both_first (p x) (list_all p xs) (q x) (list_all q xs) ∙ ap (λ rest. (p x && q x) && rest) (all_both p q xs)

  -- where all pass, the number that pass is that of all
  pub all_counted : (p : X → Bool) (xs : List X) → eqb (count_by p xs) (length xs) ≡ list_all p xs
  all_counted p [] = refl
  all_counted p (x ∷ xs) =
      ap (λ n. eqb n (suc (length xs))) (sum_by-cons (λ y. cond (p y) 1 0) x xs)
      ∙ counted_first (p x) (count_by p xs) (length xs) (list_all p xs) (count_by-le-length p xs) (all_counted p xs)

-- Keys that pass the tests of both ends of a range.

abbrev pub all_from : Option (List ℕ) → Entries → Bool
all_from from cells = list_all (λ entry. is_from from entry.0) cells

abbrev pub all_before : Option (List ℕ) → Entries → Bool
all_before to cells = list_all (λ entry. is_before to entry.0) cells

-- where there is no end all keys pass
pub all_from-none : (from : Option (List ℕ)) (cells : Entries) → from ≡ None → true ≡ all_from from cells
all_from-none from cells none = all_pass cells ∙ ap (λ o. all_from o cells) (sym none)

pub all_before-none : (to : Option (List ℕ)) (cells : Entries) → to ≡ None → true ≡ all_before to cells
all_before-none to cells none = all_pass cells ∙ ap (λ o. all_before o cells) (sym none)

pub lie_in-both : (range : Ends) (cells : Entries) → (all_from range.0 cells && all_before range.1 cells) ≡ lie_in range cells
lie_in-both range cells = all_both (λ entry. is_from range.0 entry.0) (λ entry. is_before range.1 entry.0) cells

-- and by the answers of the two tests
pub lie_in-then : (range : Ends) (from to : Option (List ℕ)) (cells : Entries) (first second : Bool) → first ≡ all_from from cells → from ≡ range.0 → first ≡ true
    → second ≡ all_before to cells → to ≡ range.1 → second ≡ lie_in range cells
lie_in-then range from to cells first second is same passes is_too same_too =
    is_too ∙ ap (λ o. all_before o cells) same_too
    ∙ ap (λ b. b && all_before range.1 cells) (sym passes ∙ is ∙ ap (λ o. all_from o cells) same) ∙ lie_in-both range cells

pub lie_in-else : (range : Ends) (from : Option (List ℕ)) (cells : Entries) (first : Bool) → first ≡ all_from from cells → from ≡ range.0 → first ≡ false → first ≡ lie_in range cells
lie_in-else range from cells first is same fails =
    fails ∙ ap (λ b. b && all_before range.1 cells) (sym fails ∙ is ∙ ap (λ o. all_from o cells) same) ∙ lie_in-both range cells

-- The cells whose keys lie in a range are a slice of all.

-- the keys that pass a test come first: whatever is less than one that passes passes
abbrev pub PassFirst : (List ℕ → Bool) → Type 0
PassFirst p = (a b : List ℕ) → bytes_cmp a b ≡ Less → p b ≡ true → p a ≡ true

abbrev passing : (List ℕ → Bool) → Entries → ℕ
passing p es = count_by (λ e. p e.0) es

counted : (p : List ℕ → Bool) (e : List ℕ × CellValue) (es : Entries) (b : Bool) → p e.0 ≡ b → passing p (e ∷ es) ≡ cond b 1 0 + passing p es
counted p e es b is = sum_by-cons _ e es ∙ ap (λ b. cond b 1 0 + passing p es) is

kept : (p : List ℕ → Bool) (e : List ℕ × CellValue) (es : Entries) (b : Bool) → p e.0 ≡ b → filter (λ e. p e.0) (e ∷ es) ≡ cond b (e ∷ filter (λ e. p e.0) es) (filter (λ e. p e.0) es)
kept p e es b is = ap (λ b. cond b (e ∷ filter (λ e. p e.0) es) (filter (λ e. p e.0) es)) is

-- a key after one that fails fails
fails_too : (p : List ℕ → Bool) → PassFirst p → (a b : List ℕ) → bytes_cmp a b ≡ Less → p a ≡ false → p b ≡ false
fails_too p first a b less fails =
    elim (p b) as (λ r. p b ≡ r → r ≡ false) [
      | true ↦ λ passes. sym (first a b less passes) ∙ fails
      | false ↦ λ _. refl
    ] refl

none_counted : (p : List ℕ → Bool) → PassFirst p → (key : List ℕ) (es : Entries) → Below bytes_cmp key es → p key ≡ false → passing p es ≡ 0
none_counted p first key [] below fails = refl
none_counted p first key (e ∷ es) below fails =
    counted p e es false (fails_too p first key e.0 below.0 fails) ∙ zero-add _ ∙ none_counted p first key es below.1 fails

none_kept : (p : List ℕ → Bool) → PassFirst p → (key : List ℕ) (es : Entries) → Below bytes_cmp key es → p key ≡ false → filter (λ e. p e.0) es ≡ []
none_kept p first key [] below fails = refl
none_kept p first key (e ∷ es) below fails =
    kept p e es false (fails_too p first key e.0 below.0 fails) ∙ none_kept p first key es below.1 fails

-- those that pass are taken from the front
taken : (p : List ℕ → Bool) → PassFirst p → (es : Entries) → Rising bytes_cmp es → take (passing p es) es ≡ filter (λ e. p e.0) es
taken p first [] rising = refl
taken p first (e ∷ es) rising =
    elim (p e.0) as (λ b. p e.0 ≡ b → take (passing p (e ∷ es)) (e ∷ es) ≡ filter (λ e. p e.0) (e ∷ es)) [
      | true ↦ λ is.
          ap (λ n. take n (e ∷ es)) (counted p e es true is ∙ one-add _)
          ∙ ap (λ xs. e ∷ xs) (taken p first es rising.1) ∙ sym (kept p e es true is)
      | false ↦ λ is.
          ap (λ n. take n (e ∷ es)) (counted p e es false is ∙ zero-add _ ∙ none_counted p first e.0 es rising.0 is)
          ∙ sym (kept p e es false is ∙ none_kept p first e.0 es rising.0 is)
    ] refl

-- where none passes the first test, those that pass both fail it
no_first : (p q : List ℕ → Bool) → PassFirst p → (key : List ℕ) (es : Entries) → Below bytes_cmp key es → p key ≡ false
    → filter (λ (e : List ℕ × CellValue). q e.0) es ≡ filter (λ (e : List ℕ × CellValue). not (p e.0) && q e.0) es
no_first p q first key [] below fails = refl
no_first p q first key (e ∷ es) below fails =
    let fails_here = fails_too p first key e.0 below.0 fails in
    (λ i. cond (q e.0) (e ∷ no_first p q first key es below.1 fails i) (no_first p q first key es below.1 fails i))
    ∙ ap (λ b. cond (not b && q e.0) (e ∷ filter (λ (e : List ℕ × CellValue). not (p e.0) && q e.0) es) (filter (λ (e : List ℕ × CellValue). not (p e.0) && q e.0) es)) (sym fails_here)

-- those that pass one test and fail another, which comes before it, are a slice
sliced : (p q : List ℕ → Bool) → PassFirst p → PassFirst q → ((key : List ℕ) → p key ≡ true → q key ≡ true) → (es : Entries) → Rising bytes_cmp es
    → slice_range es (passing p es) (passing q es) ≡ filter (λ (e : List ℕ × CellValue). not (p e.0) && q e.0) es
sliced p q first first_too then [] rising = refl
sliced p q first first_too then (e ∷ es) rising =
    elim (p e.0) as (λ b. p e.0 ≡ b → slice_range (e ∷ es) (passing p (e ∷ es)) (passing q (e ∷ es)) ≡ filter (λ (e : List ℕ × CellValue). not (p e.0) && q e.0) (e ∷ es)) [
      | true ↦ λ is.
          let less : (m n : ℕ) → suc n - suc m ≡ n - m = λ m n. omega arith in
          (λ i. slice_range (e ∷ es) ((counted p e es true is ∙ one-add _) i) ((counted q e es true (then e.0 is) ∙ one-add _) i))
          ∙ ap (λ n. take n (drop (passing p es) es)) (less (passing p es) (passing q es))
          ∙ sliced p q first first_too then es rising.1
          ∙ ap (λ b. cond (not b && q e.0) (e ∷ filter (λ (e : List ℕ × CellValue). not (p e.0) && q e.0) es) (filter (λ (e : List ℕ × CellValue). not (p e.0) && q e.0) es)) (sym is)
      | false ↦ λ is.
          let same : (n : ℕ) → n - 0 ≡ n = λ n. omega arith in
          ap (λ n. slice_range (e ∷ es) n (passing q (e ∷ es))) (counted p e es false is ∙ zero-add _ ∙ none_counted p first e.0 es rising.0 is)
          ∙ ap (λ n. take n (e ∷ es)) (same (passing q (e ∷ es)))
          ∙ taken q first_too (e ∷ es) rising
          ∙ (λ i. cond (q e.0) (e ∷ no_first p q first e.0 es rising.0 is i) (no_first p q first e.0 es rising.0 is i))
          ∙ ap (λ b. cond (not b && q e.0) (e ∷ filter (λ (e : List ℕ × CellValue). not (p e.0) && q e.0) es) (filter (λ (e : List ℕ × CellValue). not (p e.0) && q e.0) es)) (sym is)
    ] refl

fewer : (p q : List ℕ → Bool) → ((key : List ℕ) → p key ≡ true → q key ≡ true) → (es : Entries) → passing p es ≤ passing q es
fewer p q then [] = omega arith
fewer p q then (e ∷ es) =
    elim (p e.0) as (λ b. p e.0 ≡ b → passing p (e ∷ es) ≤ passing q (e ∷ es)) [
      | true ↦ λ is. omega (arith, counted p e es true is, counted q e es true (then e.0 is), fewer p q then es)
      | false ↦ λ is.
          elim (q e.0) as (λ b. q e.0 ≡ b → passing p (e ∷ es) ≤ passing q (e ∷ es)) [
            | true ↦ λ is_too. omega (arith, counted p e es false is, counted q e es true is_too, fewer p q then es)
            | false ↦ λ is_too. omega (arith, counted p e es false is, counted q e es false is_too, fewer p q then es)
          ] refl
    ] refl

-- ---- the ends of a range

not_not : (b : Bool) → not (not b) ≡ b
not_not true = refl
not_not false = refl

below_first : (end : List ℕ) → PassFirst (λ key. is_below key end)
below_first end a b less passes = ap is_lt (nat_list_cmp_total.trans a b end less (is_less (bytes_cmp b end) passes))

before_first : (to : Option (List ℕ)) → PassFirst (λ key. is_before to key)
before_first None a b less passes = refl
before_first (Some to) a b less passes = below_first to a b less passes

under_first : (from : Option (List ℕ)) → PassFirst (λ key. not (is_from from key))
under_first None a b less passes = cc
under_first (Some from) a b less passes =
    not_not (is_below a from) ∙ below_first from a b less (sym (not_not (is_below b from)) ∙ passes)

-- what is below a range is before its end
before_end : (range : Ends) → are_ends range ≡ true → (key : List ℕ) → not (is_from range.0 key) ≡ true → is_before range.1 key ≡ true
before_end (None, to) ends key under = cc
before_end (Some from, to) ends key under = before_first to key from (is_less (bytes_cmp key from) (sym (not_not (is_below key from)) ∙ under)) ends

pub within_slice : (range : Ends) (cells : Entries) → are_ends range ≡ true → IsTrue (is_sorted bytes_cmp cells)
    → slice_range cells (count_by (λ entry. not (is_from range.0 entry.0)) cells) (count_by (λ entry. is_before range.1 entry.0) cells) ≡ filter (λ entry. in_range range entry.0) cells
within_slice range cells ends rising =
    sliced (λ key. not (is_from range.0 key)) (λ key. is_before range.1 key) (under_first range.0) (before_first range.1) (before_end range ends) cells (Rising-from_sorted bytes_cmp cells rising)
    ∙ (λ i. filter (λ entry. not_not (is_from range.0 entry.0) i && is_before range.1 entry.0) cells)

pub within_order : (range : Ends) (cells : Entries) → are_ends range ≡ true
    → count_by (λ entry. not (is_from range.0 entry.0)) cells ≤ count_by (λ entry. is_before range.1 entry.0) cells
within_order range cells ends = fewer (λ key. not (is_from range.0 key)) (λ key. is_before range.1 key) (before_end range ends) cells

-- ---- what the searches count

pub none_below : (cells : Entries) → 0 ≡ count_by (λ entry. not (is_from None entry.0)) cells
none_below [] = refl
none_below (e ∷ es) = none_below es ∙ sym (counted (λ key. not (is_from None key)) e es false refl ∙ zero-add _)

pub all_come_before : (cells : Entries) → length cells ≡ count_by (λ entry. is_before None entry.0) cells
all_come_before [] = refl
all_come_before (e ∷ es) = ap suc (all_come_before es) ∙ sym (counted (λ key. is_before None key) e es true refl ∙ one-add _)

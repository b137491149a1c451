-- Entries whose keys rise, and what the index of a key says about them.
use Rattle.std.proofs.Common.{◌≡◌, Bool, true, false, ◌&&◌, List, [], ◌∷◌, ◌++◌, Ordering, Less, Equal, Greater, is_lt, IsTrue, refl, ap, ◌∙◌, ℕ, suc, ◌+◌, ◌<◌, ◌≤◌, cond, length, get_or, set, insert, Some, None, Result, Ok, Err, MatchResult, is_eq, count_by, sym, zero-le, suc-le-suc, zero-add, one-add}
use Rattle.std.specs.List.{AllByRecursion}
use Rattle.std.specs.Ordering.{ordering_reverse}
use Rattle.std.specs.Cmp.{IsTotalOrder}
use Rattle.std.specs.FinMap.{is_sorted, find, put}
use Rattle.std.specs.FinMap.Entries.{below_all, by_order}
use Rattle.std.proofs.lemmas.List.Sums.{sum_by-cons}
use Rattle.std.proofs.lemmas.Result.{MatchResult-at_ok, MatchResult-at_err}
use Rattle.pn_join.specs.Indices.{later, index_of}

both : (a b : Bool) → a ≡ true → b ≡ true → a && b ≡ true
both true b p q = q
both false b p q = p

first : (a b : Bool) → a && b ≡ true → a ≡ true
first true b p = refl
first false b p = p

second : (a b : Bool) → a && b ≡ true → b ≡ true
second true b p = p
second false b p = cc

less : (r : Ordering) → is_lt r ≡ true → r ≡ Less
less Less p = refl
less Equal p = cc
less Greater p = cc

-- the two keys exchanged
pub flipped : {K : Type 0} {cmp : K → K → Ordering} → IsTotalOrder cmp → (x y : K) {r : Ordering} → cmp x y ≡ r → cmp y x ≡ ordering_reverse r
flipped o x y p = o.antisymm y x ∙ ap ordering_reverse p

module _ {K X : Type 0} (cmp : K → K → Ordering) where
  -- the key is less than that of each entry
  abbrev pub Below : K → List (K × X) → Type 0
  Below k es = AllByRecursion (λ e. cmp k e.0 ≡ Less) es

  -- each key is less than those after it
  abbrev pub Rising : List (K × X) → Type 0
  Rising [] = Unit {0}
  Rising (e ∷ es) = Below e.0 es × Rising es

  -- each key of the first entries is less than each of the others
  abbrev pub AllBelow : List (K × X) → List (K × X) → Type 0
  AllBelow xs ys = AllByRecursion (λ x. Below x.0 ys) xs

  Below-from_test : (k : K) (es : List (K × X)) → below_all cmp k es ≡ true → Below k es
  Below-from_test k [] h = tt
  Below-from_test k (e ∷ es) h = (less _ (first _ _ h), Below-from_test k es (second _ _ h))

  test_from_Below : (k : K) (es : List (K × X)) → Below k es → below_all cmp k es ≡ true
  test_from_Below k [] h = refl
  test_from_Below k (e ∷ es) h = both _ _ (ap is_lt h.0) (test_from_Below k es h.1)

  pub Rising-from_sorted : (es : List (K × X)) → IsTrue (is_sorted cmp es) → Rising es
  Rising-from_sorted [] h = tt
  Rising-from_sorted (e ∷ es) h = (Below-from_test e.0 es (first _ _ h), Rising-from_sorted es (second _ _ h))

  pub sorted_from_Rising : (es : List (K × X)) → Rising es → IsTrue (is_sorted cmp es)
  sorted_from_Rising [] h = refl
  sorted_from_Rising (e ∷ es) h = both _ _ (test_from_Below e.0 es h.0) (sorted_from_Rising es h.1)

  pub Below-append : (k : K) (xs ys : List (K × X)) → Below k xs → Below k ys → Below k (xs ++ ys)
  Below-append k [] ys h g = g
  Below-append k (x ∷ xs) ys h g = (h.0, Below-append k xs ys h.1 g)

  pub Below-prefix : (k : K) (xs ys : List (K × X)) → Below k (xs ++ ys) → Below k xs
  Below-prefix k [] ys h = tt
  Below-prefix k (x ∷ xs) ys h = (h.0, Below-prefix k xs ys h.1)

  pub Below-back : (k : K) (xs ys : List (K × X)) → Below k (xs ++ ys) → Below k ys
  Below-back k [] ys h = h
  Below-back k (x ∷ xs) ys h = Below-back k xs ys h.1

  pub Rising-prefix : (xs ys : List (K × X)) → Rising (xs ++ ys) → Rising xs
  Rising-prefix [] ys h = tt
  Rising-prefix (x ∷ xs) ys h = (Below-prefix x.0 xs ys h.0, Rising-prefix xs ys h.1)

  pub Rising-back : (xs ys : List (K × X)) → Rising (xs ++ ys) → Rising ys
  Rising-back [] ys h = h
  Rising-back (x ∷ xs) ys h = Rising-back xs ys h.1

  pub AllBelow-from_Rising : (xs ys : List (K × X)) → Rising (xs ++ ys) → AllBelow xs ys
  AllBelow-from_Rising [] ys h = tt
  AllBelow-from_Rising (x ∷ xs) ys h = (Below-back x.0 xs ys h.0, AllBelow-from_Rising xs ys h.1)

  -- an entry removed from the middle
  pub Rising-without : (xs : List (K × X)) (e : K × X) (ys : List (K × X)) → Rising (xs ++ e ∷ ys) → Rising (xs ++ ys)
  Rising-without [] e ys h = h.1
  Rising-without (x ∷ xs) e ys h =
      (Below-append x.0 xs ys (Below-prefix x.0 xs (e ∷ ys) h.0) (Below-back x.0 xs (e ∷ ys) h.0).1, Rising-without xs e ys h.1)

  module _ (o : IsTotalOrder cmp) where
    pub Below-trans : (x y : K) (es : List (K × X)) → cmp x y ≡ Less → Below y es → Below x es
    Below-trans x y [] p h = tt
    Below-trans x y (e ∷ es) p h = (o.trans x y e.0 p h.0, Below-trans x y es p h.1)

    pub Below-tied : (x y : K) (es : List (K × X)) → cmp x y ≡ Equal → Below y es → Below x es
    Below-tied x y [] p h = tt
    Below-tied x y (e ∷ es) p h = (o.congr x y e.0 p ∙ h.0, Below-tied x y es p h.1)

module _ {K X : Type 0} (cmp : K → K → Ordering) (key : K) where
  -- a fact of entries and a key's index among them, by the steps of the look-up
  pub by_index : (P : List (K × X) → Result ℕ ℕ → Type 0) (at_end : P [] (Err 0)) (at_less : (e : K × X) (es : List (K × X)) → cmp key e.0 ≡ Less → P (e ∷ es) (Err 0)) (at_tie : (e : K × X) (es : List (K × X)) → cmp key e.0 ≡ Equal → P (e ∷ es) (Ok 0)) (past : (e : K × X) (es : List (K × X)) → cmp key e.0 ≡ Greater → (r : Result ℕ ℕ) → P es r → P (e ∷ es) (later r)) → (es : List (K × X)) → P es (index_of cmp key es)
  by_index P at_end at_less at_tie past [] = at_end
  by_index P at_end at_less at_tie past (e ∷ es) =
      elim (cmp key e.0) as (λ r. cmp key e.0 ≡ r → P (e ∷ es) (by_order r (Err 0) (Ok 0) (later (index_of cmp key es)))) [
        | Less ↦ λ p. at_less e es p
        | Equal ↦ λ p. at_tie e es p
        | Greater ↦ λ p. past e es p _ (by_index P at_end at_less at_tie past es)
      ] refl

  -- an index is within the entries, or at their end if the key is absent
  abbrev IsWithin : List (K × X) → Result ℕ ℕ → Type 0
  IsWithin es r = MatchResult r (λ i. i < length es) (λ i. i ≤ length es)

  later_within : (e : K × X) (es : List (K × X)) (r : Result ℕ ℕ) → IsWithin es r → IsWithin (e ∷ es) (later r)
  later_within e es (Ok i) h = suc-le-suc h
  later_within e es (Err i) h = suc-le-suc h

  pub index_within : (es : List (K × X)) → IsWithin es (index_of cmp key es)
  index_within es = by_index IsWithin zero-le (λ e es p. zero-le) (λ e es p. suc-le-suc zero-le) (λ e es p r h. later_within e es r h) es

  -- the entry at the index has the key, or no entry does
  abbrev IsFound : List (K × X) → Result ℕ ℕ → Type 0
  IsFound es r = MatchResult r (λ i. (x : K × X) → x ≡ get_or es i x → find cmp key es ≡ Some x.1) (λ i. find cmp key es ≡ None)

  -- a key below those of all entries is at none of them
  pub not_found_below : (es : List (K × X)) → Below cmp key es → find cmp key es ≡ None
  not_found_below [] h = refl
  not_found_below (e ∷ es) h = ap (λ r. cond (is_eq r) (Some e.1) (find cmp key es)) h.0 ∙ not_found_below es h.1

  not_first : (e : K × X) (es : List (K × X)) → cmp key e.0 ≡ Greater → find cmp key (e ∷ es) ≡ find cmp key es
  not_first e es p = ap (λ r. cond (is_eq r) (Some e.1) (find cmp key es)) p

  later_found : (e : K × X) (es : List (K × X)) → cmp key e.0 ≡ Greater → (r : Result ℕ ℕ) → IsFound es r → IsFound (e ∷ es) (later r)
  later_found e es p (Ok i) h = λ x is. not_first e es p ∙ h x is
  later_found e es p (Err i) h = not_first e es p ∙ h

  -- what `put` does at the index
  abbrev IsPut : X → List (K × X) → Result ℕ ℕ → Type 0
  IsPut v es r = MatchResult r (λ i. (x : K × X) → x ≡ get_or es i x → put cmp key v es ≡ set es i (x.0, v)) (λ i. put cmp key v es ≡ insert es i (key, v))

  put_by : (v : X) (e : K × X) (es : List (K × X)) (r : Ordering) → cmp key e.0 ≡ r → put cmp key v (e ∷ es) ≡ by_order r ((key, v) ∷ e ∷ es) ((e.0, v) ∷ es) (e ∷ put cmp key v es)
  put_by v e es r p = ap (λ r. by_order r ((key, v) ∷ e ∷ es) ((e.0, v) ∷ es) (e ∷ put cmp key v es)) p

  later_put : (v : X) (e : K × X) (es : List (K × X)) → cmp key e.0 ≡ Greater → (r : Result ℕ ℕ) → IsPut v es r → IsPut v (e ∷ es) (later r)
  later_put v e es p (Ok i) h = λ x is. put_by v e es Greater p ∙ ap (λ fs. e ∷ fs) (h x is)
  later_put v e es p (Err i) h = put_by v e es Greater p ∙ ap (λ fs. e ∷ fs) h

  pub put_at_index : (v : X) (es : List (K × X)) → IsPut v es (index_of cmp key es)
  put_at_index v es =
      by_index (IsPut v) refl (λ e es p. put_by v e es Less p) (λ e es p x is. put_by v e es Equal p ∙ ap (λ k. (k, v) ∷ es) (ap (λ y. y.0) (sym is))) (λ e es p r h. later_put v e es p r h) es

  module _ (o : IsTotalOrder cmp) where
    pub found_at_index : (es : List (K × X)) → Rising cmp es → IsFound es (index_of cmp key es)
    found_at_index es =
        by_index (λ es r. Rising cmp es → IsFound es r) (λ h. refl)
        (λ e es p h. not_found_below (e ∷ es) (p, Below-trans cmp o key e.0 es p h.0))
        (λ e es p h x is. ap (λ r. cond (is_eq r) (Some e.1) (find cmp key es)) p ∙ ap (λ y. Some y.1) (sym is))
        (λ e es p r f h. later_found e es p r (f h.1)) es

    pub found_at_tie : (es : List (K × X)) → Rising cmp es → (i : ℕ) → Ok i ≡ index_of cmp key es → (x : K × X) → x ≡ get_or es i x → find cmp key es ≡ Some x.1
    found_at_tie es h i is x at = MatchResult-at_ok (λ i. (x : K × X) → x ≡ get_or es i x → find cmp key es ≡ Some x.1) (λ i. find cmp key es ≡ None) i (sym is) (found_at_index es h) x at

    pub found_at_gap : (es : List (K × X)) → Rising cmp es → (i : ℕ) → Err i ≡ index_of cmp key es → find cmp key es ≡ None
    found_at_gap es h i is = MatchResult-at_err (λ i. (x : K × X) → x ≡ get_or es i x → find cmp key es ≡ Some x.1) (λ i. find cmp key es ≡ None) i (sym is) (found_at_index es h)

  pub tie_within : (es : List (K × X)) (i : ℕ) → Ok i ≡ index_of cmp key es → i < length es
  tie_within es i is = MatchResult-at_ok (λ i. i < length es) (λ i. i ≤ length es) i (sym is) (index_within es)

  pub gap_within : (es : List (K × X)) (i : ℕ) → Err i ≡ index_of cmp key es → i ≤ length es
  gap_within es i is = MatchResult-at_err (λ i. i < length es) (λ i. i ≤ length es) i (sym is) (index_within es)

  pub put_at_tie : (v : X) (es : List (K × X)) (i : ℕ) → Ok i ≡ index_of cmp key es → (x : K × X) → x ≡ get_or es i x → put cmp key v es ≡ set es i (x.0, v)
  put_at_tie v es i is x at = MatchResult-at_ok (λ i. (x : K × X) → x ≡ get_or es i x → put cmp key v es ≡ set es i (x.0, v)) (λ i. put cmp key v es ≡ insert es i (key, v)) i (sym is) (put_at_index v es) x at

  pub put_at_gap : (v : X) (es : List (K × X)) (i : ℕ) → Err i ≡ index_of cmp key es → put cmp key v es ≡ insert es i (key, v)
  put_at_gap v es i is = MatchResult-at_err (λ i. (x : K × X) → x ≡ get_or es i x → put cmp key v es ≡ set es i (x.0, v)) (λ i. put cmp key v es ≡ insert es i (key, v)) i (sym is) (put_at_index v es)

  module _ (o : IsTotalOrder cmp) where
    -- how many keys are less
    abbrev IsCount : List (K × X) → Result ℕ ℕ → Type 0
    IsCount es r = MatchResult r (λ i. i ≡ count_by (λ e. is_lt (cmp e.0 key)) es) (λ i. i ≡ count_by (λ e. is_lt (cmp e.0 key)) es)

    none_less : (es : List (K × X)) → Below cmp key es → 0 ≡ count_by (λ e. is_lt (cmp e.0 key)) es
    none_less [] h = refl
    none_less (e ∷ es) h =
        rw sum_by-cons (rw (ap is_lt (flipped o key e.0 h.0)) (none_less es h.1 ∙ sym (zero-add _)))

    count_first : (e : K × X) (es : List (K × X)) (r : Ordering) → cmp e.0 key ≡ r → count_by (λ e. is_lt (cmp e.0 key)) (e ∷ es) ≡ cond (is_lt r) 1 0 + count_by (λ e. is_lt (cmp e.0 key)) es
    count_first e es r p = sum_by-cons _ e es ∙ ap (λ r. cond (is_lt r) 1 0 + count_by (λ e. is_lt (cmp e.0 key)) es) p

    later_count : (e : K × X) (es : List (K × X)) → cmp key e.0 ≡ Greater → (r : Result ℕ ℕ) → IsCount es r → IsCount (e ∷ es) (later r)
    later_count e es p (Ok i) h = ap suc h ∙ sym (count_first e es Less (flipped o key e.0 p) ∙ one-add _)
    later_count e es p (Err i) h = ap suc h ∙ sym (count_first e es Less (flipped o key e.0 p) ∙ one-add _)

    pub count_at_index : (es : List (K × X)) → Rising cmp es → IsCount es (index_of cmp key es)
    count_at_index es =
        by_index (λ es r. Rising cmp es → IsCount es r) (λ h. refl)
        (λ e es p h. none_less (e ∷ es) (p, Below-trans cmp o key e.0 es p h.0))
        (λ e es p h. none_less es (Below-tied cmp o key e.0 es p h.0) ∙ sym (count_first e es Equal (flipped o key e.0 p) ∙ zero-add _))
        (λ e es p r f h. later_count e es p r (f h.1)) es

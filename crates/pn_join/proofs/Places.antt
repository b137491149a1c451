-- The index of a key in one leaf and in all, and searches for it.
use Rattle.std.proofs.Common.{◌≡◌, ℕ, suc, ◌-◌, ◌<◌, true, false, List, [], ◌∷◌, length, Ok, Err, Ordering, Less, Equal, Greater, is_lt, refl, sym, ap, ◌∙◌, arith, append-nil, zero, ◌≤◌, get_or, Result, HoldsAt, suc-add, cond, slice_get, option_map, option_copied, Option, None, Some, is_eq, Bor, inl, inr, subst}
use Rattle.std.specs.Ordering.{ordering_reverse}
use Rattle.std.specs.Cmp.{IsTotalOrder, alike_right, tied_back}
use Rattle.std.specs.FinMap.Entries.{by_order}
use Rattle.pn_join.specs.Indices.{later, index_of, AreUpTo}
use Rattle.pn_join.specs.Leaves.{ends_below, all_entries, begins_below, leaf_for}
use Rattle.pn_join.proofs.LeafListSearch.{above_all, index_past, shifted-first, IsAbove, Below-leaf, Rising-leaf, ends_below-above, ends_below-before, leaf_for-at}
use Rattle.pn_join.proofs.Rising.{Below, Rising, flipped, by_index, AllBelow, AllBelow-from_Rising, Rising-back}
use Rattle.std.specs.List.{AllWithin, AllByRecursion}
use Rattle.std.specs.List.Sorted.{IsBinarySearchResult, IsSearchInRange, IsSortedBy}
use Rattle.std.proofs.lemmas.List.Sorted.{searchable_from_sorted}
use Rattle.std.specs.Prelude.{IfSome, ◌⊎◌}
use Rattle.std.specs.FinMap.{find}
use Rattle.pn_join.proofs.ListFacts.{each_back, each_prefix}

tied : (r : Ordering) → is_lt r ≡ false → is_lt (ordering_reverse r) ≡ false → r ≡ Equal
tied Less p q = cc
tied Equal p q = refl
tied Greater p q = cc

module _ {K X : Type 0} (cmp : K → K → Ordering) (key : K) (o : IsTotalOrder cmp) where
  pub in_none : (es : List (K × X)) → length es ≡ 0 → Err 0 ≡ index_of cmp key es
  in_none [] none = refl
  in_none (e ∷ es) none = absurd (omega (arith, none))

  pub past_end : (es : List (K × X)) → Rising cmp es → ends_below cmp key es ≡ true → Err (length es) ≡ index_of cmp key es
  past_end es h below = shifted-first (length es) ∙ sym (index_past cmp key es [] (above_all cmp key o es h below)) ∙ ap (index_of cmp key) (append-nil es)

  index_by : (e : K × X) (es : List (K × X)) (r : Ordering) → cmp key e.0 ≡ r → index_of cmp key (e ∷ es) ≡ by_order r (Err 0) (Ok 0) (later (index_of cmp key es))
  index_by e es r p = ap (λ r. by_order r (Err 0) (Ok 0) (later (index_of cmp key es))) p

  -- the last entry has the key, where it is neither below nor above it
  tied_end : (e : K × X) → is_lt (cmp e.0 key) ≡ false → is_lt (cmp key e.0) ≡ false → cmp key e.0 ≡ Equal
  tied_end e p q = tied (cmp key e.0) q (ap is_lt (sym (o.antisymm e.0 key)) ∙ p)

  below_tied : (k : K) (es : List (K × X)) → Below cmp k es → AreUpTo cmp key es → 0 < length es → ends_below cmp key es ≡ false → cmp k key ≡ Less
  below_tied k [] h up some not = absurd (omega (arith, some))
  below_tied k (e ∷ []) h up some not = sym (alike_right o e.0 key k (flipped o key e.0 (tied_end e not up.0))) ∙ h.0
  below_tied k (e ∷ f ∷ es) h up some not = below_tied k (f ∷ es) h.1 up.1 (omega arith) not

  pub at_end : (es : List (K × X)) → Rising cmp es → AreUpTo cmp key es → 0 < length es → ends_below cmp key es ≡ false → Ok (length es - 1) ≡ index_of cmp key es
  at_end [] h up some not = absurd (omega (arith, some))
  at_end (e ∷ []) h up some not =
      let first : length (e ∷ []) - 1 ≡ 0 = omega arith in
      ap (λ (n : ℕ). Ok n) first ∙ sym (index_by e [] Equal (tied_end e not up.0))
  at_end (e ∷ f ∷ es) h up some not =
      let next : length (e ∷ f ∷ es) - 1 ≡ suc (length (f ∷ es) - 1) = omega arith in
      ap (λ (n : ℕ). Ok n) next
      ∙ ap later (at_end (f ∷ es) h.1 up.1 (omega arith) not)
      ∙ sym (index_by e (f ∷ es) Greater (flipped o e.0 key (below_tied e.0 (f ∷ es) h.0 up.1 (omega arith) not)))

  Below-at : (k : K) (es : List (K × X)) → Below cmp k es → (i : ℕ) (d : K × X) → i < length es → cmp k (get_or es i d).0 ≡ Less
  Below-at k [] h i d lt = absurd (omega arith)
  Below-at k (e ∷ es) h zero d lt = h.0
  Below-at k (e ∷ es) h (suc i) d lt = Below-at k es h.1 i d (omega arith)

  index_from_tie : (es : List (K × X)) → Rising cmp es → (i : ℕ) → i < length es → HoldsAt (λ e. cmp e.0 key ≡ Equal) es i → Ok i ≡ index_of cmp key es
  index_from_tie [] h i lt at = absurd (omega arith)
  index_from_tie (e ∷ es) h zero lt at = sym (index_by e es Equal (tied_back o e.0 key (at e)))
  index_from_tie (e ∷ es) h (suc i) lt at =
      let below : cmp e.0 key ≡ Less = sym (alike_right o (get_or es i e).0 key e.0 (at e)) ∙ Below-at e.0 es h.0 i e (omega arith) in
      ap later (index_from_tie es h.1 i (omega arith) at) ∙ sym (index_by e es Greater (flipped o e.0 key below))

  index_from_gap : (es : List (K × X)) (i : ℕ) → i ≤ length es → AllWithin (λ e. cmp e.0 key ≡ Less) es 0 i → AllWithin (λ e. cmp e.0 key ≡ Greater) es i (length es) → Err i ≡ index_of cmp key es
  index_from_gap [] zero le lows highs = refl
  index_from_gap [] (suc i) le lows highs = absurd (omega arith)
  index_from_gap (e ∷ es) zero le lows highs = sym (index_by e es Less (flipped o e.0 key (highs 0 e (omega arith) (omega arith))))
  index_from_gap (e ∷ es) (suc i) le lows highs =
      ap later (index_from_gap es i (omega arith) (λ k d _ lt. lows (suc k) d (omega arith) (omega arith)) (λ k d ge lt. highs (suc k) d (omega arith) (omega arith)))
      ∙ sym (index_by e es Greater (flipped o e.0 key (lows 0 e (omega arith) (omega arith))))

  IsSortedBy-from_Rising : (es : List (K × X)) → Rising cmp es → IsSortedBy (λ a b. is_lt (cmp a.0 b.0)) es
  IsSortedBy-from_Rising [] h k d ge lt = absurd (omega arith)
  IsSortedBy-from_Rising (e ∷ es) h zero d ge lt = ap is_lt (o.antisymm (get_or es 0 d).0 e.0 ∙ ap ordering_reverse (Below-at e.0 es h.0 0 d (omega arith)))
  IsSortedBy-from_Rising (e ∷ es) h (suc k) d ge lt = rw suc-add (IsSortedBy-from_Rising es h.1 k d (omega arith) (omega arith))

  -- a binary search returns the index
  pub index_from_search : (es : List (K × X)) → Rising cmp es → (r : Result ℕ ℕ) → IsSearchInRange r (length es) → IsBinarySearchResult (λ e. cmp e.0 key) es r → r ≡ index_of cmp key es
  index_from_search es h (Ok i) within found = index_from_tie es h i within found
  index_from_search es h (Err i) within found =
      let parted = found (searchable_from_sorted o (λ e. e.0) es key (IsSortedBy-from_Rising es h)) in
      index_from_gap es i within parted.0 parted.1

module _ {K X : Type 0} (cmp : K → K → Ordering) (key : K) where
  -- the entry at the index has the content at the key
  abbrev HasContent : List (K × X) → Result ℕ ℕ → Type 0
  HasContent es r = (i : ℕ) → Ok i ≡ r → option_map (λ (e : K × X). e.1) (slice_get es i) ≡ find cmp key es

  first_found : (e : K × X) (es : List (K × X)) (r : Ordering) → cmp key e.0 ≡ r → find cmp key (e ∷ es) ≡ cond (is_eq r) (Some e.1) (find cmp key es)
  first_found e es r p = ap (λ r. cond (is_eq r) (Some e.1) (find cmp key es)) p

  content_first : (e : K × X) (es : List (K × X)) → cmp key e.0 ≡ Equal → HasContent (e ∷ es) (Ok 0)
  content_first e es p i is =
      let at : i ≡ 0 = cc in
      ap (λ (n : ℕ). option_map (λ (x : K × X). x.1) (slice_get (e ∷ es) n)) at ∙ sym (first_found e es Equal p)

  content_later : (e : K × X) (es : List (K × X)) → cmp key e.0 ≡ Greater → (r : Result ℕ ℕ) → HasContent es r → HasContent (e ∷ es) (later r)
  content_later e es p (Ok j) has i is =
      let at : i ≡ suc j = cc in
      ap (λ (n : ℕ). option_map (λ (x : K × X). x.1) (slice_get (e ∷ es) n)) at ∙ has j refl ∙ sym (first_found e es Greater p)
  content_later e es p (Err j) has i is = cc

  pub content_at_tie : (es : List (K × X)) (i : ℕ) → Ok i ≡ index_of cmp key es → option_map (λ (e : K × X). e.1) (slice_get es i) ≡ find cmp key es
  content_at_tie es = by_index cmp key HasContent (λ i is. cc) (λ e es p i is. cc) content_first content_later es

  -- the content read at the index of a key is that at the key
  pub content_read : (es leaf : List (K × X)) (i : ℕ) (r : Option (Bor X)) → option_copied r ≡ option_map (λ (e : K × X). e.1) (slice_get es i) → es ≡ leaf → Ok i ≡ index_of cmp key leaf → option_copied r ≡ find cmp key leaf
  content_read es leaf i r is same at = is ∙ ap (λ (xs : List (K × X)). option_map (λ (e : K × X). e.1) (slice_get xs i)) same ∙ content_at_tie leaf i at

  -- the first of the entries has the key
  abbrev BeginsTied : List (K × X) → Type 0
  BeginsTied [] = ⊥
  BeginsTied (e ∷ es) = cmp key e.0 ≡ Equal

  module _ (o : IsTotalOrder cmp) where
    -- a key that would be put after some entries is above the first
    pub begins_before : (es : List (K × X)) (i : ℕ) → Err i ≡ index_of cmp key es → 0 < i → begins_below cmp key es ≡ true
    begins_before [] i is some = let at : i ≡ 0 = cc in absurd (omega (arith, some, at))
    begins_before (e ∷ es) i is some =
        elim (cmp key e.0) as (λ r. cmp key e.0 ≡ r → Err i ≡ by_order r (Err 0) (Ok 0) (later (index_of cmp key es)) → is_lt (cmp e.0 key) ≡ true) [
          | Less ↦ λ p q. let at : i ≡ 0 = cc in absurd (omega (arith, some, at))
          | Equal ↦ λ p q. cc
          | Greater ↦ λ p q. ap is_lt (flipped o key e.0 p)
        ] refl is

    -- a key that would be put before the end is not above the last
    pub ends_after : (es : List (K × X)) → Rising cmp es → (i : ℕ) → Err i ≡ index_of cmp key es → i < length es → ends_below cmp key es ≡ false
    ends_after es h i is lt =
        elim (ends_below cmp key es) as (λ b. ends_below cmp key es ≡ b → b ≡ false) [
          | true ↦ λ p. let past = past_end cmp key o es h p in let at : i ≡ length es = cc in absurd (omega (arith, lt, at))
          | false ↦ λ p. refl
        ] refl

    found_begins : (es : List (K × X)) (i : ℕ) → Ok i ≡ index_of cmp key es → (begins_below cmp key es ≡ true) ⊎ BeginsTied es
    found_begins [] i is = cc
    found_begins (e ∷ es) i is =
        elim (cmp key e.0) as (λ r. cmp key e.0 ≡ r → Ok i ≡ by_order r (Err 0) (Ok 0) (later (index_of cmp key es)) → (is_lt (cmp e.0 key) ≡ true) ⊎ (cmp key e.0 ≡ Equal)) [
          | Less ↦ λ p q. cc
          | Equal ↦ λ p q. inr p
          | Greater ↦ λ p q. inl (ap is_lt (flipped o key e.0 p))
        ] refl is

    found_ends : (es : List (K × X)) → Rising cmp es → (i : ℕ) → Ok i ≡ index_of cmp key es → ends_below cmp key es ≡ false
    found_ends es h i is =
        elim (ends_below cmp key es) as (λ b. ends_below cmp key es ≡ b → b ≡ false) [
          | true ↦ λ p. let past = past_end cmp key o es h p in cc
          | false ↦ λ p. refl
        ] refl

    tied_above : (e : K × X) (es : List (K × X)) → Below cmp e.0 es → BeginsTied es → cmp key e.0 ≡ Greater
    tied_above e [] h t = absurd t
    tied_above e (f ∷ es) h t = flipped o e.0 key (sym (alike_right o f.0 key e.0 (flipped o key f.0 t)) ∙ h.0)

    all_below_tied : (es : List (K × X)) (list : List (List (K × X))) → AllBelow cmp es (all_entries list) → (j : ℕ) → BeginsTied (get_or list j []) → IsAbove cmp key es
    all_below_tied [] list h j t = tt
    all_below_tied (e ∷ es) list h j t = (tied_above e (get_or list j []) (Below-leaf cmp key o e.0 list h.0 j) t, all_below_tied es list h.1 j t)

    -- if a leaf begins with the key, the one before it ends below it
    tied-before : (list : List (List (K × X))) → AllByRecursion (λ leaf. 0 < length leaf) list → Rising cmp (all_entries list) → (i : ℕ) → BeginsTied (get_or list (suc i) []) → ends_below cmp key (get_or list i []) ≡ true
    tied-before [] some h i t = absurd t
    tied-before (l ∷ ls) some h zero t = ends_below-above cmp key o l some.0 (all_below_tied l ls (AllBelow-from_Rising cmp l (all_entries ls) h) 0 t)
    tied-before (l ∷ ls) some h (suc i) t = tied-before ls some.1 (Rising-back cmp l (all_entries ls) h) i t

    -- a key belongs into the leaf that has it
    pub leaf_that_has : (list : List (List (K × X))) → AllByRecursion (λ leaf. 0 < length leaf) list → Rising cmp (all_entries list) → (j i : ℕ) → j < length list → Ok i ≡ index_of cmp key (get_or list j []) → j ≡ leaf_for cmp key list
    leaf_that_has list some h j i lt is =
        leaf_for-at cmp key o list some h j lt
        (λ k e. before k (is ∙ ap (λ (n : ℕ). index_of cmp key (get_or list n [])) (sym e)))
        (λ more. found_ends (get_or list j []) (Rising-leaf cmp key o list h j) i is)
      where
        before : (k : ℕ) → Ok i ≡ index_of cmp key (get_or list (suc k) []) → ends_below cmp key (get_or list k []) ≡ true
        before k at = elim (found_begins (get_or list (suc k) []) i at) [
          | inl b ↦ ends_below-before cmp key o list some h k b
          | inr t ↦ tied-before list some h k t
        ]

valid_copied : {X : Type 0} (valid : X → Type 0) (r : Option (Bor X)) (o : Option X) → option_copied r ≡ o → IfSome o valid → IfSome r (λ x. valid x.now)
valid_copied valid None o is h = tt
valid_copied valid (Some x) None is h = cc
valid_copied valid (Some x) (Some y) is h = let same : y ≡ x.now = cc in subst valid same h

module _ {K X : Type 0} (valid : X → Type 0) where
  valid_there : (es : List (K × X)) (i : ℕ) → AllByRecursion (λ e. valid e.1) es → IfSome (option_map (λ (e : K × X). e.1) (slice_get es i)) valid
  valid_there [] i h = tt
  valid_there (e ∷ es) zero h = h.0
  valid_there (e ∷ es) (suc i) h = valid_there es i h.1

  -- the contents of each leaf are valid
  leaf_contents : (list : List (List (K × X))) (i : ℕ) → AllByRecursion (λ e. valid e.1) (all_entries list) → AllByRecursion (λ e. valid e.1) (get_or list i [])
  leaf_contents [] i h = tt
  leaf_contents (l ∷ ls) zero h = each_prefix (λ e. valid e.1) l (all_entries ls) h
  leaf_contents (l ∷ ls) (suc i) h = leaf_contents ls i (each_back (λ e. valid e.1) l (all_entries ls) h)

  -- a content read in a leaf is valid
  pub valid_read : (list : List (List (K × X))) (leaf : ℕ) (es : List (K × X)) (i : ℕ) (r : Option (Bor X)) → AllByRecursion (λ e. valid e.1) (all_entries list) → option_copied r ≡ option_map (λ (e : K × X). e.1) (slice_get es i) → es ≡ get_or list leaf [] → IfSome r (λ x. valid x.now)
  valid_read list leaf es i r h is same =
      valid_copied valid r (option_map (λ (e : K × X). e.1) (slice_get es i)) is (valid_there es i (subst (λ (xs : List (K × X)). AllByRecursion (λ e. valid e.1) xs) (sym same) (leaf_contents list leaf h)))

module _ {K X : Type 0} (cmp : K → K → Ordering) (key : K) (valid : X → Type 0) where
  valid_at : (es : List (K × X)) → AllByRecursion (λ e. valid e.1) es → IfSome (find cmp key es) valid
  valid_at [] h = tt
  valid_at (e ∷ es) h =
      elim (is_eq (cmp key e.0)) as (λ b. IfSome (cond b (Some e.1) (find cmp key es)) valid) [
        | true ↦ h.0
        | false ↦ valid_at es h.1
      ]

  -- a content that is found is valid
  pub valid_found : (es : List (K × X)) (found : Option (Bor X)) → option_copied found ≡ find cmp key es → AllByRecursion (λ e. valid e.1) es → IfSome found (λ x. valid x.now)
  valid_found es found is h = valid_copied valid found (find cmp key es) is (valid_at es h)

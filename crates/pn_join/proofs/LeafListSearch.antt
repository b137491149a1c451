-- A search by key looks at one leaf of a list.
use Rattle.std.proofs.Common.{◌≡◌, ℕ, zero, suc, ◌+◌, ◌-◌, ◌<◌, ◌≤◌, Bool, true, false, cond, List, [], ◌∷◌, ◌++◌, length, get_or, take, drop, min, slice_get, Option, Some, None, Result, Ok, Err, Ordering, Less, Equal, Greater, is_eq, is_lt, refl, sym, ap, ◌∙◌, arith, append-nil, append_assoc}
use Rattle.std.specs.List.{AllByRecursion, prefix_len}
use Rattle.std.specs.Cmp.{IsTotalOrder}
use Rattle.std.specs.FinMap.{find, put}
use Rattle.std.specs.FinMap.Entries.{by_order}
use Rattle.std.proofs.lemmas.List.{length-append}
use Rattle.pn_join.specs.Leaves.{all_entries, begins_below, ends_below, leaf_for}
use Rattle.pn_join.specs.Indices.{later, index_of}
use Rattle.pn_join.proofs.Rising.{not_found_below, Below, Rising, AllBelow, AllBelow-from_Rising, Below-prefix, Below-back, Rising-prefix, Rising-back, Below-trans, Below-tied, flipped}

-- an index further by n
abbrev pub shifted : ℕ → Result ℕ ℕ → Result ℕ ℕ
shifted zero r = r
shifted (suc n) r = later (shifted n r)

pub shifted-Ok : (n i : ℕ) → shifted n (Ok i) ≡ Ok (n + i)
shifted-Ok zero i = ap Ok (omega arith)
shifted-Ok (suc n) i = ap later (shifted-Ok n i) ∙ ap Ok (omega arith)

pub shifted-Err : (n i : ℕ) → shifted n (Err i) ≡ Err (n + i)
shifted-Err zero i = ap Err (omega arith)
shifted-Err (suc n) i = ap later (shifted-Err n i) ∙ ap Err (omega arith)

pub shifted-first : (n : ℕ) → Err n ≡ shifted n (Err 0)
shifted-first zero = refl
shifted-first (suc n) = ap later (shifted-first n)

shifted-add : (n m : ℕ) (r : Result ℕ ℕ) → shifted (n + m) r ≡ shifted n (shifted m r)
shifted-add zero m r = let same : 0 + m ≡ m = omega arith in ap (λ k. shifted k r) same
shifted-add (suc n) m r = let same : suc n + m ≡ suc (n + m) = omega arith in ap (λ k. shifted k r) same ∙ ap later (shifted-add n m r)

is_less : (r : Ordering) → is_lt r ≡ true → r ≡ Less
is_less Less p = refl
is_less Equal p = cc
is_less Greater p = cc

module _ {K X : Type 0} (cmp : K → K → Ordering) (key : K) where
  -- each of these keys is less
  abbrev pub IsAbove : List (K × X) → Type 0
  IsAbove es = AllByRecursion (λ e. cmp key e.0 ≡ Greater) es

  pub index_past : (es fs : List (K × X)) → IsAbove es → index_of cmp key (es ++ fs) ≡ shifted (length es) (index_of cmp key fs)
  index_past [] fs h = refl
  index_past (e ∷ es) fs h =
      ap (λ r. by_order r (Err 0) (Ok 0) (later (index_of cmp key (es ++ fs)))) h.0 ∙ ap later (index_past es fs h.1)

  pub put_past : (v : X) (es fs : List (K × X)) → IsAbove es → put cmp key v (es ++ fs) ≡ es ++ put cmp key v fs
  put_past v [] fs h = refl
  put_past v (e ∷ es) fs h =
      ap (λ r. by_order r ((key, v) ∷ e ∷ (es ++ fs)) ((e.0, v) ∷ (es ++ fs)) (e ∷ put cmp key v (es ++ fs))) h.0 ∙ ap (λ xs. e ∷ xs) (put_past v es fs h.1)

  module _ (o : IsTotalOrder cmp) where
    pub above_all : (es : List (K × X)) → Rising cmp es → ends_below cmp key es ≡ true → IsAbove es
    above_all [] h p = tt
    above_all (e ∷ []) h p = (flipped o e.0 key (is_less _ p), tt)
    above_all (e ∷ f ∷ es) h p =
        let rest = above_all (f ∷ es) h.1 p in
        (flipped o e.0 key (o.trans e.0 f.0 key h.0.0 (flipped o key f.0 rest.0)), rest)

    pub ends_below-above : (es : List (K × X)) → 0 < length es → IsAbove es → ends_below cmp key es ≡ true
    ends_below-above [] some h = absurd (omega (arith, some))
    ends_below-above (e ∷ []) some h = ap is_lt (flipped o key e.0 h.0)
    ends_below-above (e ∷ f ∷ es) some h = ends_below-above (f ∷ es) (omega arith) h.1

    not_greater : {P : Type 0} (e : K × X) → is_lt (cmp e.0 key) ≡ false → cmp key e.0 ≡ Greater → P
    not_greater e p q = let r : true ≡ false = ap is_lt (sym (flipped o key e.0 q)) ∙ p in cc

    pub index_here : (es fs : List (K × X)) → 0 < length es → ends_below cmp key es ≡ false → index_of cmp key (es ++ fs) ≡ index_of cmp key es
    index_here [] fs some p = absurd (omega (arith, some))
    index_here (e ∷ []) fs some p =
        elim (cmp key e.0) as (λ r. cmp key e.0 ≡ r → by_order r (Err 0) (Ok 0) (later (index_of cmp key fs)) ≡ by_order r (Err 0) (Ok 0) (later (Err 0))) [
          | Less ↦ λ q. refl
          | Equal ↦ λ q. refl
          | Greater ↦ λ q. not_greater e p q
        ] refl
    index_here (e ∷ f ∷ es) fs some p =
        ap (λ s. by_order (cmp key e.0) (Err 0) (Ok 0) (later s)) (index_here (f ∷ es) fs (omega arith) p)

    pub put_here : (v : X) (es fs : List (K × X)) → 0 < length es → ends_below cmp key es ≡ false → put cmp key v (es ++ fs) ≡ put cmp key v es ++ fs
    put_here v [] fs some p = absurd (omega (arith, some))
    put_here v (e ∷ []) fs some p =
        elim (cmp key e.0) as (λ r. cmp key e.0 ≡ r → by_order r ((key, v) ∷ e ∷ fs) ((e.0, v) ∷ fs) (e ∷ put cmp key v fs) ≡ by_order r ((key, v) ∷ e ∷ []) ((e.0, v) ∷ []) (e ∷ put cmp key v []) ++ fs) [
          | Less ↦ λ q. refl
          | Equal ↦ λ q. refl
          | Greater ↦ λ q. not_greater e p q
        ] refl
    put_here v (e ∷ f ∷ es) fs some p =
        elim (cmp key e.0) as (λ r. by_order r ((key, v) ∷ e ∷ f ∷ (es ++ fs)) ((e.0, v) ∷ f ∷ (es ++ fs)) (e ∷ put cmp key v (f ∷ (es ++ fs))) ≡ by_order r ((key, v) ∷ e ∷ f ∷ es) ((e.0, v) ∷ f ∷ es) (e ∷ put cmp key v (f ∷ es)) ++ fs) [
          | Less ↦ refl
          | Equal ↦ refl
          | Greater ↦ ap (λ xs. e ∷ xs) (put_here v (f ∷ es) fs (omega arith) p)
        ]

    find_past : (es fs : List (K × X)) → IsAbove es → find cmp key (es ++ fs) ≡ find cmp key fs
    find_past [] fs h = refl
    find_past (e ∷ es) fs h = ap (λ r. cond (is_eq r) (Some e.1) (find cmp key (es ++ fs))) h.0 ∙ find_past es fs h.1

    find_here : (es fs : List (K × X)) → 0 < length es → Rising cmp (es ++ fs) → ends_below cmp key es ≡ false → find cmp key (es ++ fs) ≡ find cmp key es
    find_here [] fs some h p = absurd (omega (arith, some))
    find_here (e ∷ []) fs some h p =
        elim (cmp key e.0) as (λ r. cmp key e.0 ≡ r → cond (is_eq r) (Some e.1) (find cmp key fs) ≡ cond (is_eq r) (Some e.1) None) [
          | Less ↦ λ q. not_found_below cmp key fs (Below-trans cmp o key e.0 fs q h.0)
          | Equal ↦ λ q. refl
          | Greater ↦ λ q. not_greater e p q
        ] refl
    find_here (e ∷ f ∷ es) fs some h p = ap (cond (is_eq (cmp key e.0)) (Some e.1)) (find_here (f ∷ es) fs (omega arith) h.1 p)

    found_front : (v : X) (es fs : List (K × X)) → find cmp key es ≡ Some v → find cmp key (es ++ fs) ≡ Some v
    found_front v [] fs is = cc
    found_front v (e ∷ es) fs is =
        elim (is_eq (cmp key e.0)) as (λ b. cond b (Some e.1) (find cmp key es) ≡ Some v → cond b (Some e.1) (find cmp key (es ++ fs)) ≡ Some v) [
          | true ↦ λ p. p
          | false ↦ λ p. found_front v es fs p
        ] is

    found_back : (v : X) (es fs : List (K × X)) → Rising cmp (es ++ fs) → find cmp key fs ≡ Some v → find cmp key (es ++ fs) ≡ Some v
    found_back v [] fs h is = is
    found_back v (e ∷ es) fs h is =
        let rest = found_back v es fs h.1 is in
        elim (cmp key e.0) as (λ r. cmp key e.0 ≡ r → cond (is_eq r) (Some e.1) (find cmp key (es ++ fs)) ≡ Some v) [
          | Less ↦ λ p. rest
          | Equal ↦ λ p.
              let none : None ≡ Some v = sym (not_found_below cmp key (es ++ fs) (Below-tied cmp o key e.0 (es ++ fs) p h.0)) ∙ rest in
              cc
          | Greater ↦ λ p. rest
        ] refl

    -- the content that a leaf has at a key is that of the list
    pub found_in_any : (v : X) (list : List (List (K × X))) → Rising cmp (all_entries list) → (j : ℕ) → find cmp key (get_or list j []) ≡ Some v → find cmp key (all_entries list) ≡ Some v
    found_in_any v [] h j is = cc
    found_in_any v (l ∷ ls) h zero is = found_front v l (all_entries ls) is
    found_in_any v (l ∷ ls) h (suc j) is = found_back v l (all_entries ls) h (found_in_any v ls (Rising-back cmp l (all_entries ls) h) j is)

    -- the content at a key, by its leaf
    pub find_in_list : (list : List (List (K × X))) → AllByRecursion (λ leaf. 0 < length leaf) list → Rising cmp (all_entries list) → find cmp key (all_entries list) ≡ find cmp key (get_or list (leaf_for cmp key list) [])
    find_in_list [] some h = refl
    find_in_list (l ∷ []) some h = ap (find cmp key) (append-nil l)
    find_in_list (l ∷ m ∷ ls) some h =
        elim (ends_below cmp key l) as (λ b. ends_below cmp key l ≡ b → find cmp key (l ++ all_entries (m ∷ ls)) ≡ find cmp key (get_or (l ∷ m ∷ ls) (cond b (suc (leaf_for cmp key (m ∷ ls))) 0) [])) [
          | true ↦ λ p. find_past l (all_entries (m ∷ ls)) (above_all l (Rising-prefix cmp l (all_entries (m ∷ ls)) h) p) ∙ find_in_list (m ∷ ls) some.1 (Rising-back cmp l (all_entries (m ∷ ls)) h)
          | false ↦ λ p. find_here l (all_entries (m ∷ ls)) some.0 h p
        ] refl

    -- the index of a key, by its leaf
    pub index_in_list : (list : List (List (K × X))) → AllByRecursion (λ leaf. 0 < length leaf) list → Rising cmp (all_entries list) → index_of cmp key (all_entries list) ≡ shifted (length (all_entries (take (leaf_for cmp key list) list))) (index_of cmp key (get_or list (leaf_for cmp key list) []))
    index_in_list [] some h = refl
    index_in_list (l ∷ []) some h = ap (index_of cmp key) (append-nil l)
    index_in_list (l ∷ m ∷ ls) some h =
        elim (ends_below cmp key l) as (λ b. ends_below cmp key l ≡ b → index_of cmp key (l ++ all_entries (m ∷ ls)) ≡ shifted (length (all_entries (take (cond b (suc (leaf_for cmp key (m ∷ ls))) 0) (l ∷ m ∷ ls)))) (index_of cmp key (get_or (l ∷ m ∷ ls) (cond b (suc (leaf_for cmp key (m ∷ ls))) 0) []))) [
          | true ↦ λ p.
              let j = leaf_for cmp key (m ∷ ls) in
              index_past l (all_entries (m ∷ ls)) (above_all l (Rising-prefix cmp l (all_entries (m ∷ ls)) h) p)
              ∙ ap (shifted (length l)) (index_in_list (m ∷ ls) some.1 (Rising-back cmp l (all_entries (m ∷ ls)) h))
              ∙ sym (shifted-add (length l) (length (all_entries (take j (m ∷ ls)))) (index_of cmp key (get_or (m ∷ ls) j [])))
              ∙ ap (λ n. shifted n (index_of cmp key (get_or (m ∷ ls) j []))) (sym (length-append l (all_entries (take j (m ∷ ls)))))
          | false ↦ λ p. index_here l (all_entries (m ∷ ls)) some.0 p
        ] refl

    -- putting at a key is putting into its leaf
    pub put_in_list : (v : X) (list : List (List (K × X))) → 0 < length list → AllByRecursion (λ leaf. 0 < length leaf) list → Rising cmp (all_entries list) → put cmp key v (all_entries list) ≡ all_entries (take (leaf_for cmp key list) list) ++ (put cmp key v (get_or list (leaf_for cmp key list) []) ++ all_entries (drop (suc (leaf_for cmp key list)) list))
    put_in_list v [] one some h = absurd (omega (arith, one))
    put_in_list v (l ∷ []) one some h = ap (put cmp key v) (append-nil l) ∙ sym (append-nil (put cmp key v l))
    put_in_list v (l ∷ m ∷ ls) one some h =
        elim (ends_below cmp key l) as (λ b. ends_below cmp key l ≡ b → put cmp key v (l ++ all_entries (m ∷ ls)) ≡ all_entries (take (cond b (suc (leaf_for cmp key (m ∷ ls))) 0) (l ∷ m ∷ ls)) ++ (put cmp key v (get_or (l ∷ m ∷ ls) (cond b (suc (leaf_for cmp key (m ∷ ls))) 0) []) ++ all_entries (drop (suc (cond b (suc (leaf_for cmp key (m ∷ ls))) 0)) (l ∷ m ∷ ls)))) [
          | true ↦ λ p.
              let j = leaf_for cmp key (m ∷ ls) in
              put_past v l (all_entries (m ∷ ls)) (above_all l (Rising-prefix cmp l (all_entries (m ∷ ls)) h) p)
              ∙ ap (λ xs. l ++ xs) (put_in_list v (m ∷ ls) (omega arith) some.1 (Rising-back cmp l (all_entries (m ∷ ls)) h))
              ∙ sym (append_assoc l (all_entries (take j (m ∷ ls))) (put cmp key v (get_or (m ∷ ls) j []) ++ all_entries (drop (suc j) (m ∷ ls))))
          | false ↦ λ p. put_here v l (all_entries (m ∷ ls)) some.0 p
        ] refl

    pub Below-leaf : (k : K) (list : List (List (K × X))) → Below cmp k (all_entries list) → (j : ℕ) → Below cmp k (get_or list j [])
    Below-leaf k [] h j = tt
    Below-leaf k (l ∷ ls) h zero = Below-prefix cmp k l (all_entries ls) h
    Below-leaf k (l ∷ ls) h (suc j) = Below-leaf k ls (Below-back cmp k l (all_entries ls) h) j

    below_key : (e : K × X) (es : List (K × X)) → 0 < length es → Below cmp e.0 es → IsAbove es → cmp key e.0 ≡ Greater
    below_key e [] some h g = absurd (omega (arith, some))
    below_key e (f ∷ es) some h g = flipped o e.0 key (o.trans e.0 f.0 key h.0 (flipped o key f.0 g.0))

    below_keys : (es : List (K × X)) (list : List (List (K × X))) → AllBelow cmp es (all_entries list) → (j : ℕ) → 0 < length (get_or list j []) → IsAbove (get_or list j []) → IsAbove es
    below_keys [] list h j some g = tt
    below_keys (e ∷ es) list h j some g = (below_key e (get_or list j []) some (Below-leaf e.0 list h.0 j) g, below_keys es list h.1 j some g)

    pub Rising-leaf : (list : List (List (K × X))) → Rising cmp (all_entries list) → (j : ℕ) → Rising cmp (get_or list j [])
    Rising-leaf [] h j = tt
    Rising-leaf (l ∷ ls) h zero = Rising-prefix cmp l (all_entries ls) h
    Rising-leaf (l ∷ ls) h (suc j) = Rising-leaf ls (Rising-back cmp l (all_entries ls) h) j

    pub some_at : (list : List (List (K × X))) → AllByRecursion (λ leaf. 0 < length leaf) list → (j : ℕ) → j < length list → 0 < length (get_or list j [])
    some_at [] some j lt = absurd (omega (arith, lt))
    some_at (l ∷ ls) some zero lt = some.0
    some_at (l ∷ ls) some (suc j) lt = some_at ls some.1 j (omega (arith, lt))

    -- if one leaf ends below the key, so do those before it
    pub parted : (list : List (List (K × X))) → AllByRecursion (λ leaf. 0 < length leaf) list → Rising cmp (all_entries list) → (i j : ℕ) → i ≤ j → j < length list → ends_below cmp key (get_or list j []) ≡ true → ends_below cmp key (get_or list i []) ≡ true
    parted [] some h i j le lt p = absurd (omega (arith, lt))
    parted (l ∷ ls) some h zero zero le lt p = p
    parted (l ∷ ls) some h zero (suc j) le lt p =
        let back = Rising-back cmp l (all_entries ls) h in
        let full = some_at ls some.1 j (omega (arith, lt)) in
        ends_below-above l some.0 (below_keys l ls (AllBelow-from_Rising cmp l (all_entries ls) h) j full (above_all (get_or ls j []) (Rising-leaf ls back j) p))
    parted (l ∷ ls) some h (suc i) zero le lt p = absurd (omega (arith, le))
    parted (l ∷ ls) some h (suc i) (suc j) le lt p = parted ls some.1 (Rising-back cmp l (all_entries ls) h) i j (omega (arith, le)) (omega (arith, lt)) p

    below_first : (e : K × X) (es : List (K × X)) → Below cmp e.0 es → begins_below cmp key es ≡ true → cmp key e.0 ≡ Greater
    below_first e [] h p = cc
    below_first e (f ∷ es) h p = flipped o e.0 key (o.trans e.0 f.0 key h.0 (is_less _ p))

    all_below_first : (es : List (K × X)) (list : List (List (K × X))) → AllBelow cmp es (all_entries list) → (j : ℕ) → begins_below cmp key (get_or list j []) ≡ true → IsAbove es
    all_below_first [] list h j p = tt
    all_below_first (e ∷ es) list h j p = (below_first e (get_or list j []) (Below-leaf e.0 list h.0 j) p, all_below_first es list h.1 j p)

    -- if a leaf begins below the key, the one before it ends below it
    pub ends_below-before : (list : List (List (K × X))) → AllByRecursion (λ leaf. 0 < length leaf) list → Rising cmp (all_entries list) → (i : ℕ) → begins_below cmp key (get_or list (suc i) []) ≡ true → ends_below cmp key (get_or list i []) ≡ true
    ends_below-before [] some h i p = cc
    ends_below-before (l ∷ ls) some h zero p = ends_below-above l some.0 (all_below_first l ls (AllBelow-from_Rising cmp l (all_entries ls) h) 0 p)
    ends_below-before (l ∷ ls) some h (suc i) p = ends_below-before ls some.1 (Rising-back cmp l (all_entries ls) h) i p

    pub leaf_for-within : (list : List (List (K × X))) → 0 < length list → leaf_for cmp key list < length list
    leaf_for-within [] one = absurd (omega (arith, one))
    leaf_for-within (l ∷ []) one = omega arith
    leaf_for-within (l ∷ m ∷ ls) one =
        elim (ends_below cmp key l) as (λ b. cond b (suc (leaf_for cmp key (m ∷ ls))) 0 < length (l ∷ m ∷ ls)) [
          | true ↦ omega (arith, leaf_for-within (m ∷ ls) (omega arith))
          | false ↦ omega arith
        ]

    -- a key belongs into a leaf if that one does not end below it or is the last, and the one before does
    pub leaf_for-at : (list : List (List (K × X))) → AllByRecursion (λ leaf. 0 < length leaf) list → Rising cmp (all_entries list) → (j : ℕ) → j < length list → ((i : ℕ) → suc i ≡ j → ends_below cmp key (get_or list i []) ≡ true) → (j + 1 < length list → ends_below cmp key (get_or list j []) ≡ false) → j ≡ leaf_for cmp key list
    leaf_for-at [] some h j lt before here = absurd (omega (arith, lt))
    leaf_for-at (l ∷ []) some h j lt before here = omega (arith, lt)
    leaf_for-at (l ∷ m ∷ ls) some h zero lt before here = sym (ap (λ b. cond b (suc (leaf_for cmp key (m ∷ ls))) 0) (here (omega arith)))
    leaf_for-at (l ∷ m ∷ ls) some h (suc j) lt before here =
        let rest = leaf_for-at (m ∷ ls) some.1 (Rising-back cmp l (all_entries (m ∷ ls)) h) j (omega (arith, lt)) (λ i e. before (suc i) (ap suc e)) (λ more. here (omega (arith, more))) in
        ap suc rest ∙ sym (ap (λ b. cond b (suc (leaf_for cmp key (m ∷ ls))) 0) (parted (l ∷ m ∷ ls) some h 0 j (omega arith) (omega (arith, lt)) (before j refl)))

    -- the search for the first that does not end below the key, and no further than the last
    pub leaf_for-search : (list : List (List (K × X))) → leaf_for cmp key list ≡ min (prefix_len (λ leaf. ends_below cmp key leaf) list) (length list - 1)
    leaf_for-search [] = omega arith
    leaf_for-search (l ∷ []) = omega arith
    leaf_for-search (l ∷ m ∷ ls) =
        searched (ends_below cmp key l) (leaf_for cmp key (m ∷ ls)) (prefix_len (λ leaf. ends_below cmp key leaf) (m ∷ ls)) (length ls) (leaf_for-search (m ∷ ls)) where
          searched : (b : Bool) (j n k : ℕ) → j ≡ min n (suc k - 1) → cond b (suc j) 0 ≡ min (cond b (1 + n) 0) (suc (suc k) - 1)
          searched true j n k is = omega (arith, is)
          searched false j n k is = omega arith

    abbrev is_below : Option (K × X) → Bool
    is_below None = false
    is_below (Some e) = is_lt (cmp e.0 key)

    last_at : (e : K × X) (es : List (K × X)) → ends_below cmp key (e ∷ es) ≡ is_below (slice_get (e ∷ es) (length es))
    last_at e [] = refl
    last_at e (f ∷ es) = last_at f es

    -- whether a leaf ends below the key is seen at its last entry
    pub last_tells : (es : List (K × X)) (last : K × X) → Some last ≡ slice_get es (length es - 1) → ends_below cmp key es ≡ is_lt (cmp last.0 key)
    last_tells [] last is = cc
    last_tells (e ∷ es) last is =
        let at : length (e ∷ es) - 1 ≡ length es = omega arith in
        last_at e es ∙ ap is_below (sym (is ∙ ap (slice_get (e ∷ es)) at))

    pub none_tells : (es : List (K × X)) → None ≡ slice_get es (length es - 1) → ends_below cmp key es ≡ false
    none_tells [] is = refl
    none_tells (e ∷ es) is =
        let at : length (e ∷ es) - 1 ≡ length es = omega arith in
        last_at e es ∙ ap is_below (sym (is ∙ ap (slice_get (e ∷ es)) at))

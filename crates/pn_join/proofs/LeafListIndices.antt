-- The leaf of an index among all entries, and what searches in leaves return.
use Rattle.std.proofs.Common.{◌≡◌, ℕ, zero, suc, ◌+◌, ◌-◌, ◌<◌, ◌≤◌, true, false, cond, leb, List, [], ◌∷◌, ◌++◌, length, get_or, take, drop, slice_get, refl, sym, ap, ◌∙◌, arith, append-nil, Bool, min, Ordering}
use Rattle.std.specs.List.{prefix_len, AllByRecursion}
use Rattle.std.specs.List.Sorted.{IsNonDecreasingBy, IsPartitionedBy}
use Rattle.std.proofs.lemmas.List.{length-append}
use Rattle.std.proofs.lemmas.Bool.Decides.{nat_tests}
use Rattle.pn_join.specs.Leaves.{all_entries, counts_after, ends_below, leaf_for, IsLeaf, IsLeafList}
use Rattle.std.specs.Cmp.{IsTotalOrder}
use Rattle.std.specs.FinMap.{find}
use Rattle.pn_join.specs.Tables.{IsTable}
use Rattle.pn_join.proofs.ListFacts.{each_weaker, each_prefix, each_back}
use Rattle.pn_join.proofs.Rising.{Rising, Rising-from_sorted, sorted_from_Rising}
use Rattle.pn_join.proofs.LeafListSearch.{parted, leaf_for-search, leaf_for-within, find_in_list, Rising-leaf}

module _ {A : Type 0} where
  drop_none : (n : ℕ) → drop {A = A} n [] ≡ []
  drop_none zero = refl
  drop_none (suc n) = refl

  slice_get_left : (xs ys : List A) (i : ℕ) → i < length xs → slice_get (xs ++ ys) i ≡ slice_get xs i
  slice_get_left [] ys i lt = absurd (omega (arith, lt))
  slice_get_left (x ∷ xs) ys zero lt = refl
  slice_get_left (x ∷ xs) ys (suc i) lt = slice_get_left xs ys i (omega (arith, lt))

  slice_get_right : (xs ys : List A) (i : ℕ) → length xs ≤ i → slice_get (xs ++ ys) i ≡ slice_get ys (i - length xs)
  slice_get_right [] ys i le = ap (slice_get ys) (omega arith)
  slice_get_right (x ∷ xs) ys zero le = absurd (omega (arith, le))
  slice_get_right (x ∷ xs) ys (suc i) le = slice_get_right xs ys i (omega (arith, le)) ∙ ap (slice_get ys) (omega arith)

  drop_left : (xs ys : List A) (i : ℕ) → i < length xs → drop i (xs ++ ys) ≡ drop i xs ++ ys
  drop_left [] ys i lt = absurd (omega (arith, lt))
  drop_left (x ∷ xs) ys zero lt = refl
  drop_left (x ∷ xs) ys (suc i) lt = drop_left xs ys i (omega (arith, lt))

  drop_right : (xs ys : List A) (i : ℕ) → length xs ≤ i → drop i (xs ++ ys) ≡ drop (i - length xs) ys
  drop_right [] ys i le = ap (λ n. drop n ys) (omega arith)
  drop_right (x ∷ xs) ys zero le = absurd (omega (arith, le))
  drop_right (x ∷ xs) ys (suc i) le = drop_right xs ys i (omega (arith, le)) ∙ ap (λ n. drop n ys) (omega arith)

  -- the count up to a leaf's end
  pub end_at : (m : ℕ) (list : List (List A)) (i : ℕ) → i < length list → (d : ℕ) → get_or (counts_after m list) i d ≡ m + length (all_entries (take (suc i) list))
  end_at m [] i lt d = absurd (omega (arith, lt))
  end_at m (l ∷ ls) zero lt d = omega (arith, length-append l [])
  end_at m (l ∷ ls) (suc i) lt d = omega (arith, end_at (m + length l) ls i (omega (arith, lt)) d, length-append l (all_entries (take (suc i) ls)))

  pub length-counts : (m : ℕ) (list : List (List A)) → length (counts_after m list) ≡ length list
  length-counts m [] = refl
  length-counts m (l ∷ ls) = ap suc (length-counts (m + length l) ls)

  counts_above : (m : ℕ) (list : List (List A)) (j d : ℕ) → j < length (counts_after m list) → m ≤ get_or (counts_after m list) j d
  counts_above m [] j d lt = absurd (omega (arith, lt))
  counts_above m (l ∷ ls) zero d lt = omega arith
  counts_above m (l ∷ ls) (suc j) d lt = omega (arith, counts_above (m + length l) ls j d (omega (arith, lt)))

  pub counts_rise : (m : ℕ) (list : List (List A)) → IsNonDecreasingBy (λ n. n) (counts_after m list)
  counts_rise m [] i j d le lt = absurd (omega (arith, lt))
  counts_rise m (l ∷ ls) zero zero d le lt = omega arith
  counts_rise m (l ∷ ls) zero (suc j) d le lt = counts_above (m + length l) ls j d (omega (arith, lt))
  counts_rise m (l ∷ ls) (suc i) zero d le lt = absurd (omega (arith, le))
  counts_rise m (l ∷ ls) (suc i) (suc j) d le lt = counts_rise (m + length l) ls i j d (omega (arith, le)) (omega (arith, lt))

  -- the leaf of an index: the first that ends after it
  abbrev pub leaf_at : ℕ → ℕ → List (List A) → ℕ
  leaf_at m index [] = 0
  leaf_at m index (l ∷ ls) = cond (leb (m + length l) index) (suc (leaf_at (m + length l) index ls)) 0

  pub leaf_at-prefix : (m index : ℕ) (list : List (List A)) → prefix_len (λ end. leb end index) (counts_after m list) ≡ leaf_at m index list
  leaf_at-prefix m index [] = refl
  leaf_at-prefix m index (l ∷ ls) =
      ap (λ n. cond (leb (m + length l) index) n 0) (one_more (prefix_len (λ end. leb end index) (counts_after (m + length l) ls)) ∙ ap suc (leaf_at-prefix (m + length l) index ls)) where
        one_more : (n : ℕ) → 1 + n ≡ suc n
        one_more n = omega arith

  pub entry_in_list : (m index : ℕ) (list : List (List A)) → slice_get (all_entries list) index ≡ slice_get (get_or list (leaf_at m (m + index) list) []) (index - length (all_entries (take (leaf_at m (m + index) list) list)))
  entry_in_list m index [] = refl
  entry_in_list m index (l ∷ ls) =
      elim (leb (m + length l) (m + index)) as (λ b. leb (m + length l) (m + index) ≡ b → slice_get (l ++ all_entries ls) index ≡ slice_get (get_or (l ∷ ls) (cond b (suc (leaf_at (m + length l) (m + index) ls)) 0) []) (index - length (all_entries (take (cond b (suc (leaf_at (m + length l) (m + index) ls)) 0) (l ∷ ls))))) [
        | true ↦ λ p.
            let le : length l ≤ index = grind (arith, nat_tests) in
            let at : (m + length l) + (index - length l) ≡ m + index = omega (arith, le) in
            let j = leaf_at (m + length l) (m + index) ls in
            let here = rw at at (entry_in_list (m + length l) (index - length l) ls) in
            let left : (index - length l) - length (all_entries (take j ls)) ≡ index - length (l ++ all_entries (take j ls)) = omega (arith, length-append l (all_entries (take j ls))) in
            slice_get_right l (all_entries ls) index le ∙ here
            ∙ ap (slice_get (get_or ls j [])) left
        | false ↦ λ p.
            let lt : index < length l = grind (arith, nat_tests) in
            let same : index ≡ index - 0 = omega arith in
            slice_get_left l (all_entries ls) index lt ∙ ap (slice_get l) same
      ] refl

  pub rest_in_list : (m index : ℕ) (list : List (List A)) → drop index (all_entries list) ≡ drop (index - length (all_entries (take (leaf_at m (m + index) list) list))) (get_or list (leaf_at m (m + index) list) []) ++ all_entries (drop (suc (leaf_at m (m + index) list)) list)
  rest_in_list m index [] = drop_none index ∙ sym (append-nil (drop (index - 0) []) ∙ drop_none (index - 0))
  rest_in_list m index (l ∷ ls) =
      elim (leb (m + length l) (m + index)) as (λ b. leb (m + length l) (m + index) ≡ b → drop index (l ++ all_entries ls) ≡ drop (index - length (all_entries (take (cond b (suc (leaf_at (m + length l) (m + index) ls)) 0) (l ∷ ls)))) (get_or (l ∷ ls) (cond b (suc (leaf_at (m + length l) (m + index) ls)) 0) []) ++ all_entries (drop (suc (cond b (suc (leaf_at (m + length l) (m + index) ls)) 0)) (l ∷ ls))) [
        | true ↦ λ p.
            let le : length l ≤ index = grind (arith, nat_tests) in
            let at : (m + length l) + (index - length l) ≡ m + index = omega (arith, le) in
            let j = leaf_at (m + length l) (m + index) ls in
            let here = rw at at (rest_in_list (m + length l) (index - length l) ls) in
            let left : (index - length l) - length (all_entries (take j ls)) ≡ index - length (l ++ all_entries (take j ls)) = omega (arith, length-append l (all_entries (take j ls))) in
            drop_right l (all_entries ls) index le ∙ here
            ∙ ap (λ n. drop n (get_or ls j []) ++ all_entries (drop (suc j) ls)) left
        | false ↦ λ p.
            let lt : index < length l = grind (arith, nat_tests) in
            let same : index ≡ index - 0 = omega arith in
            drop_left l (all_entries ls) index lt ∙ ap (λ n. drop n l ++ all_entries ls) same
      ] refl

  -- a leaf lies within the list
  pub leaf_within : (list : List (List A)) (i : ℕ) → length (all_entries (take i list)) + length (get_or list i []) ≤ length (all_entries list)
  leaf_within [] zero = omega arith
  leaf_within [] (suc i) = omega arith
  leaf_within (l ∷ ls) zero = omega (arith, length-append l (all_entries ls))
  leaf_within (l ∷ ls) (suc i) = omega (arith, length-append l (all_entries ls), length-append l (all_entries (take i ls)), leaf_within ls i)

-- within a list the default is not read
pub same_at : {A : Type 0} (xs : List A) (i : ℕ) (d e : A) → i < length xs → get_or xs i d ≡ get_or xs i e
same_at [] i d e lt = absurd (omega (arith, lt))
same_at (x ∷ xs) zero d e lt = refl
same_at (x ∷ xs) (suc i) d e lt = same_at xs i d e (omega (arith, lt))

-- the count is not above the index
abbrev pub counts_by : ℕ → ℕ → Bool
counts_by index end = leb end index

module _ {K X : Type 0} (cmp : K → K → Ordering) (valid : X → Type 0) where
  pub list_some : (list : List (List (K × X))) → IsLeafList cmp valid list → AllByRecursion (λ leaf. 0 < length leaf) list
  list_some list leaf_list = each_weaker (λ leaf. IsLeaf leaf) (λ leaf. 0 < length leaf) (λ leaf is. is.0) list leaf_list.sizes

  pub list_rising : (list : List (List (K × X))) → IsLeafList cmp valid list → Rising cmp (all_entries list)
  list_rising list leaf_list = Rising-from_sorted cmp (all_entries list) leaf_list.table.rising

  -- a key's leaf is one of the list, or the list has none
  pub leaf_for-inside : (key : K) (o : IsTotalOrder cmp) (list : List (List (K × X))) → leaf_for cmp key list ≤ length list
  leaf_for-inside key o list = omega (arith, leaf_for-search cmp key o list)

  pub inside_list : (key : K) (o : IsTotalOrder cmp) (list now : List (List (K × X))) (i : ℕ) → list ≡ now → 0 < length now → i ≡ leaf_for cmp key now → i < length list
  inside_list key o list now i same some at = omega (arith, leaf_for-within cmp key o now some, ap length same, at)

  -- the content at a key in its leaf is that in the list
  pub found_in_leaf : (key : K) (o : IsTotalOrder cmp) (list : List (List (K × X))) → IsLeafList cmp valid list → (i : ℕ) (es : List (K × X)) → i ≡ leaf_for cmp key list → es ≡ get_or list i [] → find cmp key (all_entries list) ≡ find cmp key es
  found_in_leaf key o list leaf_list i es at is =
      find_in_list cmp key o list (list_some list leaf_list) (list_rising list leaf_list)
      ∙ ap (λ j. find cmp key (get_or list j [])) (sym at) ∙ ap (find cmp key) (sym is)

  pub IsTable-leaf : (key : K) (o : IsTotalOrder cmp) (list : List (List (K × X))) → IsLeafList cmp valid list → (i : ℕ) → IsTable cmp valid (get_or list i [])
  IsTable-leaf key o list leaf_list i = record {
    rising = sorted_from_Rising cmp _ (Rising-leaf cmp key o list (list_rising list leaf_list) i);
    contents = leaf_valid list i leaf_list.table.contents;
  } where
    leaf_valid : (list : List (List (K × X))) (i : ℕ) → AllByRecursion (λ e. valid e.1) (all_entries list) → AllByRecursion (λ e. valid e.1) (get_or list i [])
    leaf_valid [] i h = tt
    leaf_valid (l ∷ ls) zero h = each_prefix (λ e. valid e.1) l (all_entries ls) h
    leaf_valid (l ∷ ls) (suc i) h = leaf_valid ls i (each_back (λ e. valid e.1) l (all_entries ls) h)

  -- the leaf's entries are a table
  pub IsTable-entries : (key : K) (o : IsTotalOrder cmp) (list : List (List (K × X))) → IsLeafList cmp valid list → (i : ℕ) (es : List (K × X)) → es ≡ get_or list i [] → IsTable cmp valid es
  IsTable-entries key o list leaf_list i es is = rw is (IsTable-leaf key o list leaf_list i)

  pub IsLeaf-at : (list : List (List (K × X))) (i : ℕ) → AllByRecursion (λ leaf. IsLeaf leaf) list → i < length list → IsLeaf (get_or list i [])
  IsLeaf-at [] i h lt = absurd (omega (arith, lt))
  IsLeaf-at (l ∷ ls) zero h lt = h.0
  IsLeaf-at (l ∷ ls) (suc i) h lt = IsLeaf-at ls i h.1 (omega (arith, lt))

module _ {A : Type 0} where
  -- the count before a leaf is where it starts
  pub start_at : (list : List (List A)) (index d : ℕ) → (index ≡ 0 → ⊥) → index ≤ length list → get_or (counts_after 0 list) (index - 1) d ≡ length (all_entries (take index list))
  start_at list zero d some le = absurd (some refl)
  start_at list (suc i) d some le =
      let at : suc i - 1 ≡ i = omega arith in
      let within : i < length list = omega (arith, le) in
      ap (λ k. get_or (counts_after 0 list) k d) at ∙ end_at 0 list i within d ∙ none_more (length (all_entries (take (suc i) list))) where
        none_more : (n : ℕ) → 0 + n ≡ n
        none_more n = omega arith

-- Parts of slices of a list's entries, each from one leaf.
use Rattle.std.proofs.Common.{◌≡◌, ℕ, zero, suc, ◌+◌, ◌-◌, ◌<◌, ◌≤◌, min, true, false, cond, leb, List, [], ◌∷◌, ◌++◌, length, get_or, take, drop, slice_range, Ordering, IsTrue, refl, sym, ap, ◌∙◌, arith, append_assoc, length-append, take-append-drop}
use Rattle.std.proofs.lemmas.Bool.Decides.{nat_tests}
use Rattle.std.proofs.lemmas.List.{length-take, length-drop, take-append-le, take_min, drop-drop}
use Rattle.std.proofs.lemmas.List.Concat.{flat_map-append}
use Rattle.std.specs.List.{AllByRecursion}
use Rattle.std.specs.FinMap.{is_sorted}
use Rattle.pn_join.specs.Leaves.{all_entries, counts_after, IsLeaf, IsLeafList, AreEntryCounts}
use Rattle.pn_join.specs.declared.table.leaf_join.TheConstants.{MAX_LEAF_ENTRIES}
use Rattle.pn_join.specs.Tables.{IsTable}
use Rattle.pn_join.proofs.ListFacts.{each_prefix, each_back, each_append}
use Rattle.pn_join.proofs.LeafFacts.{all_push}
use Rattle.pn_join.proofs.LeafListIndices.{leaf_at, rest_in_list}
use Rattle.pn_join.proofs.Rising.{Rising, Rising-from_sorted, sorted_from_Rising, Rising-prefix, Rising-back}

module _ {A : Type 0} where
  take_none : (n : ℕ) → take {A = A} n [] ≡ []
  take_none zero = refl
  take_none (suc n) = refl

  take_split : (m n : ℕ) (xs : List A) → m ≤ n → take n xs ≡ take m xs ++ take (n - m) (drop m xs)
  take_split zero n xs le = let same : n ≡ n - 0 = omega arith in ap (λ k. take k xs) same
  take_split (suc m) zero xs le = absurd (omega (arith, le))
  take_split (suc m) (suc n) [] le = sym (take_none (suc n - suc m))
  take_split (suc m) (suc n) (x ∷ xs) le =
      let same : n - m ≡ suc n - suc m = omega arith in
      ap (λ ys. x ∷ ys) (take_split m n xs (omega (arith, le)) ∙ ap (λ k. take m xs ++ take k (drop m xs)) same)

  -- the first of two lists has the first entries
  part_first : (first rest part : List A) (n : ℕ) → part ≡ take n first → take n (first ++ rest) ≡ part ++ take (n - length part) (drop (length part) (first ++ rest))
  part_first first rest part n is =
      let long : length part ≡ min n (length first) = ap length is ∙ length-take n first in
      let front : take (length part) (first ++ rest) ≡ part = take-append-le (length part) first rest (omega (arith, long)) ∙ ap (λ k. take k first) long ∙ take_min n first ∙ sym is in
      take_split (length part) n (first ++ rest) (omega (arith, long))
      ∙ ap (λ xs. xs ++ take (n - length part) (drop (length part) (first ++ rest))) front

  slice_first : (all first rest part : List A) (from to : ℕ) → drop from all ≡ first ++ rest → part ≡ take (to - from) first → slice_range all from to ≡ part ++ slice_range all (from + length part) to
  slice_first all first rest part from to is part_is =
      let left : (to - from) - length part ≡ to - (from + length part) = omega arith in
      ap (take (to - from)) is ∙ part_first first rest part (to - from) part_is
      ∙ ap (λ xs. part ++ take ((to - from) - length part) (drop (length part) xs)) (sym is)
      ∙ ap (λ xs. part ++ take ((to - from) - length part) xs) (drop-drop (length part) from all)
      ∙ ap (λ n. part ++ take n (drop (from + length part) all)) left

  -- the entry at an index stands in this leaf
  pub record StandsIn (list : List (List A)) (leaf index : ℕ) : Type 0 where
    pub within : leaf < length list
    pub starts : length (all_entries (take leaf list)) ≤ index
    pub ends : index < length (all_entries (take leaf list)) + length (get_or list leaf [])

  leaf_at-stands : (m index : ℕ) (list : List (List A)) → index < length (all_entries list) → StandsIn list (leaf_at m (m + index) list) index
  leaf_at-stands m index [] lt = absurd (omega (arith, lt))
  leaf_at-stands m index (l ∷ ls) lt =
      elim (leb (m + length l) (m + index)) as (λ b. leb (m + length l) (m + index) ≡ b → StandsIn (l ∷ ls) (cond b (suc (leaf_at (m + length l) (m + index) ls)) 0) index) [
        | true ↦ λ p.
            let le : length l ≤ index = grind (arith, nat_tests) in
            let at : (m + length l) + (index - length l) ≡ m + index = omega (arith, le) in
            let short : index - length l < length (all_entries ls) = omega (arith, lt, le, length-append l (all_entries ls)) in
            let j = leaf_at (m + length l) (m + index) ls in
            let here : StandsIn ls j (index - length l) = rw at at (leaf_at-stands (m + length l) (index - length l) ls short) in
            record {
              within = omega (arith, here.within);
              starts = omega (arith, le, here.starts, length-append l (all_entries (take j ls)));
              ends = omega (arith, le, here.ends, length-append l (all_entries (take j ls)));
            }
        | false ↦ λ p.
            let here : index < length l = grind (arith, nat_tests) in
            record {
              within = omega arith;
              starts = omega arith;
              ends = omega (arith, here);
            }
      ] refl

  -- the leaf that a search by index finds
  pub stands : (list : List (List A)) (leaf index : ℕ) → leaf ≡ leaf_at 0 index list → index < length (all_entries list) → StandsIn list leaf index
  stands list leaf index at lt =
      let same : 0 + index ≡ index = omega arith in
      rw (same, ← at) at (leaf_at-stands 0 index list lt)

  module _ (list : List (List A)) (leaf from to : ℕ) (part : List A) (in_leaf : StandsIn list leaf from) (some : from < to) (is : part ≡ slice_range (get_or list leaf []) (from - length (all_entries (take leaf list))) (to - length (all_entries (take leaf list)))) where
    abbrev start : ℕ
    start = length (all_entries (take leaf list))

    part_is : part ≡ take (to - from) (drop (from - start) (get_or list leaf []))
    part_is =
        let same : (to - start) - (from - start) ≡ to - from = omega (arith, in_leaf.starts, some) in
        is ∙ ap (λ n. take n (drop (from - start) (get_or list leaf []))) same

    long : length part ≡ min (to - from) (length (get_or list leaf []) - (from - start))
    long =
        ap length part_is ∙ length-take (to - from) (drop (from - start) (get_or list leaf []))
        ∙ ap (min (to - from)) (length-drop (from - start) (get_or list leaf []))

    -- the part has entries, and no more than its leaf
    pub part_size : length (get_or list leaf []) ≤ MAX_LEAF_ENTRIES → IsLeaf part
    part_size most = (omega (arith, long, in_leaf.starts, in_leaf.ends, some), omega (arith, long, most))

    pub part_some : 0 < length part
    part_some = omega (arith, long, in_leaf.starts, in_leaf.ends, some)

    pub part_within : from + length part ≤ to
    part_within = omega (arith, long, some)

    -- the slice is the part and the rest of the slice
    pub part_begins : leaf ≡ leaf_at 0 from list → slice_range (all_entries list) from to ≡ part ++ slice_range (all_entries list) (from + length part) to
    part_begins at =
        let same : 0 + from ≡ from = omega arith in
        let rest : drop from (all_entries list) ≡ drop (from - start) (get_or list leaf []) ++ all_entries (drop (suc leaf) list) = rw (same, ← at) at (rest_in_list 0 from list) in
        slice_first (all_entries list) (drop (from - start) (get_or list leaf [])) (all_entries (drop (suc leaf) list)) part from to rest part_is

  take_counts : (m k : ℕ) (list : List (List A)) → take k (counts_after m list) ≡ counts_after m (take k list)
  take_counts m zero list = refl
  take_counts m (suc k) [] = refl
  take_counts m (suc k) (l ∷ ls) = ap (λ ns. (m + length l) ∷ ns) (take_counts (m + length l) k ls)

  parted_at : (list : List (List A)) (k : ℕ) → all_entries (take k list) ++ all_entries (drop k list) ≡ all_entries list
  parted_at list k = sym (flat_map-append (λ leaf. leaf) (take k list) (drop k list)) ∙ ap all_entries (take-append-drop k list)

  -- the entries of leaves of which one is the last
  pub with_last : (list rest : List (List A)) (last : List A) → list ≡ rest ++ last ∷ [] → all_entries list ≡ all_entries rest ++ last
  with_last list rest last is = ap all_entries is ∙ all_push rest last

  -- the counts of the first leaves
  pub first_counts : (list : List (List A)) (counts : List ℕ) (k : ℕ) → AreEntryCounts list counts → AreEntryCounts (take k list) (take k counts)
  first_counts list counts k are = record {
    each = ap (take k) are.each ∙ take_counts 0 k list;
    fits = omega (arith, are.fits, ap length (parted_at list k), length-append (all_entries (take k list)) (all_entries (drop k list)));
  }

module _ {K X : Type 0} (cmp : K → K → Ordering) (valid : X → Type 0) where
  -- the first entries of a table
  pub IsTable-prefix : (xs ys : List (K × X)) → IsTable cmp valid (xs ++ ys) → IsTable cmp valid xs
  IsTable-prefix xs ys table = record {
    rising = sorted_from_Rising cmp xs (Rising-prefix cmp xs ys (Rising-from_sorted cmp (xs ++ ys) table.rising));
    contents = each_prefix (λ e. valid e.1) xs ys table.contents;
  }

  -- the first leaves of a list
  pub first_leaves : (list : List (List (K × X))) (k : ℕ) → IsLeafList cmp valid list → IsLeafList cmp valid (take k list)
  first_leaves list k leaf_list = record {
    sizes = each_prefix (λ leaf. IsLeaf leaf) (take k list) (drop k list) (rw (take-append-drop k list) leaf_list.sizes);
    table = IsTable-prefix (all_entries (take k list)) (all_entries (drop k list)) (rw (parted_at list k) leaf_list.table);
  }

  module _ (now slice part rest : List (K × X)) (is : slice ≡ part ++ rest) where
    -- what is there and the slice, with the slice's first part added
    pub one_part : (now ++ part) ++ rest ≡ now ++ slice
    one_part = append_assoc now part rest ∙ ap (λ xs. now ++ xs) (sym is)

    pub next_table : IsTable cmp valid (now ++ slice) → IsTable cmp valid (now ++ part)
    next_table table = IsTable-prefix (now ++ part) rest (rw one_part table)

  contents_taken : (n : ℕ) (es : List (K × X)) → AllByRecursion (λ e. valid e.1) es → AllByRecursion (λ e. valid e.1) (take n es)
  contents_taken n es all = each_prefix (λ e. valid e.1) (take n es) (drop n es) (rw (take-append-drop n es) all)

  contents_dropped : (n : ℕ) (es : List (K × X)) → AllByRecursion (λ e. valid e.1) es → AllByRecursion (λ e. valid e.1) (drop n es)
  contents_dropped n es all = each_back (λ e. valid e.1) (take n es) (drop n es) (rw (take-append-drop n es) all)

  -- a table followed by a slice of another, whose keys rise
  pub followed : (es others : List (K × X)) (from to : ℕ) → IsTable cmp valid es → IsTable cmp valid others → IsTrue (is_sorted cmp (es ++ slice_range others from to)) → IsTable cmp valid (es ++ slice_range others from to)
  followed es others from to table other rising = record {
    rising = rising;
    contents = each_append (λ e. valid e.1) es (slice_range others from to) table.contents (contents_taken (to - from) (drop from others) (contents_dropped from others other.contents));
  }

  -- the empty list followed by a slice of a table
  pub slice_rises : (es : List (K × X)) (from to : ℕ) → IsTrue (is_sorted cmp es) → IsTrue (is_sorted cmp (slice_range es from to))
  slice_rises es from to rising =
      let rest : Rising cmp (drop from es) = Rising-back cmp (take from es) (drop from es) (rw (take-append-drop from es) (Rising-from_sorted cmp es rising)) in
      sorted_from_Rising cmp _ (Rising-prefix cmp (take (to - from) (drop from es)) (drop (to - from) (drop from es)) (rw (take-append-drop (to - from) (drop from es)) rest))

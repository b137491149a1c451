-- A vector of entries as a leaf, and a leaf added to a list.
use Rattle.std.proofs.Common.{◌≡◌, ℕ, zero, suc, ◌+◌, ◌*◌, ◌<◌, ◌≤◌, List, [], ◌∷◌, ◌++◌, length, min, Option, Some, None, unwrap_or, option_map, slice_get, IfSome, Ordering, IsTrue, refl, sym, ap, ◌∙◌, subst, arith, append-nil, ◌^◌, get_or, take, drop, set, insert, Result, Ok, Err, OnErr, append_assoc}
use Rattle.std.specs.List.{AllByRecursion}
use Rattle.std.specs.FinMap.{is_sorted}
use Rattle.std.proofs.lemmas.List.{length-append}
use Rattle.pn_join.specs.Leaves.{all_entries, IsLeaf, IsLeafList, counts_after, AreEntryCounts}
use Rattle.pn_join.specs.Nodes.{both, leaf_of, AreParts}
use Rattle.pn_join.specs.PutInLeaves.{ChangesOneLeaf, ReindicesOneLeaf}
use Rattle.pn_join.specs.Tables.{IsTable}
use Rattle.pn_join.specs.declared.table.leaf_join.TheConstants.{MAX_LEAF_ENTRIES}
use Rattle.pn_join.proofs.ListFacts.{each_append}

module _ {A : Type 0} where
  pub all_leaf_of : (es : List A) → all_entries (leaf_of es) ≡ es
  all_leaf_of [] = refl
  all_leaf_of (e ∷ es) = append-nil (e ∷ es)

  pub leaf_count : (es : List A) → min (length es) 1 ≡ length (leaf_of es)
  leaf_count [] = omega arith
  leaf_count (e ∷ es) = omega arith

  pub leaf_sizes : (es : List A) → length es ≤ MAX_LEAF_ENTRIES → AllByRecursion (λ leaf. IsLeaf leaf) (leaf_of es)
  leaf_sizes [] few = tt
  leaf_sizes (e ∷ es) few = ((omega arith, few), tt)

  pub leaf_few : (es : List A) → AllByRecursion (λ leaf. IsLeaf leaf) (leaf_of es) → length es ≤ MAX_LEAF_ENTRIES
  leaf_few [] sizes = omega arith
  leaf_few (e ∷ es) sizes = sizes.0.1

  pub has_entries : (es : List A) → 0 < length (leaf_of es) → 0 < length es
  has_entries [] some = absurd (omega (arith, some))
  has_entries (e ∷ es) some = omega arith

  pub has_leaf : (es : List A) → 0 < length es → 0 < length (leaf_of es)
  has_leaf [] some = absurd (omega (arith, some))
  has_leaf (e ∷ es) some = omega arith

  pub no_leaf_there : (es : List A) (index : ℕ) → 0 < index → None ≡ slice_get (leaf_of es) index
  no_leaf_there [] index some = refl
  no_leaf_there (e ∷ es) zero some = absurd (omega (arith, some))
  no_leaf_there (e ∷ es) (suc index) some = refl

  pub one_leaf_there : (es : List A) (index : ℕ) → index ≡ 0 → 0 < length es → Some es ≡ slice_get (leaf_of es) index
  one_leaf_there [] index at some = absurd (omega (arith, some))
  one_leaf_there (e ∷ es) zero at some = refl
  one_leaf_there (e ∷ es) (suc index) at some = absurd (omega (arith, at))

  -- a leaf, and one after it if that has entries
  pub leaf_parts : (front back : List A) (more : Option (List (List A))) → unwrap_or more [] ≡ leaf_of back → IfSome more (λ leaves. 0 < length leaves) → 0 < length front → length front ≤ MAX_LEAF_ENTRIES → length back ≤ MAX_LEAF_ENTRIES → AreParts (leaf_of front) more
  leaf_parts [] back more is has some few short = absurd (omega (arith, some))
  leaf_parts (e ∷ es) back more is has some few short = record {
    sizes = ((omega arith, few), rw is (leaf_sizes back short));
    some = omega arith;
    more = has;
  }

  pub both_leaves : (front back : List A) (more : Option (List (List A))) → unwrap_or more [] ≡ leaf_of back → all_entries (both (leaf_of front) more) ≡ front ++ back
  both_leaves [] back more is = ap all_entries is ∙ all_leaf_of back
  both_leaves (e ∷ es) back more is = ap (λ ls. (e ∷ es) ++ all_entries ls) is ∙ ap (λ xs. (e ∷ es) ++ xs) (all_leaf_of back)

  -- a leaf is changed, or cut in two
  pub one_leaf : (old front back : List A) (more : Option (List (List A))) → unwrap_or more [] ≡ leaf_of back → 0 < length old → 0 < length front → ChangesOneLeaf (leaf_of old) (both (leaf_of front) more)
  one_leaf [] front back more is had some = absurd (omega (arith, had))
  one_leaf (o ∷ old) [] back more is had some = absurd (omega (arith, some))
  one_leaf (o ∷ old) (e ∷ es) back more is had some = record {
    before = [];
    after = [];
    was = o ∷ old;
    is = (e ∷ es) ∷ leaf_of back;
    one_or_two = (omega arith, omega (arith, sym (leaf_count back)));
    old_leaves = refl;
    new_leaves = ap (λ ls. (e ∷ es) ∷ ls) is ∙ sym (append-nil ((e ∷ es) ∷ leaf_of back));
  }

-- a leaf with entries, if there is one
pub some_leaf : {V A : Type 0} (items : V → List A) (leaf : Option V) → IfSome leaf (λ l. 0 < length (items l)) → IfSome (option_map (λ l. leaf_of (items l)) leaf) (λ leaves. 0 < length leaves)
some_leaf items None some = tt
some_leaf items (Some l) some = has_leaf (items l) some

module _ {K C : Type 0} (cmp : K → K → Ordering) (valid : C → Type 0) (es : List (K × C)) where
  pub leaf_sorted : IsLeafList cmp valid (leaf_of es) → IsTrue (is_sorted cmp es)
  leaf_sorted leaf_list = subst (λ xs. IsTrue (is_sorted cmp xs)) (all_leaf_of es) leaf_list.table.rising

pub on_err_of : {T E P : Type 0} (r : Result T E) → P → OnErr r P
on_err_of (Ok x) p = tt
on_err_of (Err e) p = p

module _ {A : Type 0} where
  pub all_push : (list : List (List A)) (leaf : List A) → all_entries (list ++ leaf ∷ []) ≡ all_entries list ++ leaf
  all_push [] leaf = append-nil leaf
  all_push (l ∷ ls) leaf = ap (λ es. l ++ es) (all_push ls leaf) ∙ sym (append_assoc l (all_entries ls) leaf)

  counts_push : (m : ℕ) (list : List (List A)) (leaf : List A) → counts_after m (list ++ leaf ∷ []) ≡ counts_after m list ++ ((m + length (all_entries list)) + length leaf) ∷ []
  counts_push m [] leaf = let at : m + length leaf ≡ (m + 0) + length leaf = omega arith in ap (λ n. n ∷ []) at
  counts_push m (l ∷ ls) leaf =
      let at : ((m + length l) + length (all_entries ls)) + length leaf ≡ (m + length (l ++ all_entries ls)) + length leaf = omega (arith, length-append l (all_entries ls)) in
      ap (λ es. (m + length l) ∷ es) (counts_push (m + length l) ls leaf) ∙ ap (λ n. (m + length l) ∷ (counts_after (m + length l) ls ++ n ∷ [])) at

  pub pushed_counts : (list : List (List A)) (leaf : List A) (entry_counts : List ℕ) (end : ℕ) → AreEntryCounts list entry_counts → end ≡ length (all_entries list) + length leaf → end < 2 ^ 64 → AreEntryCounts (list ++ leaf ∷ []) (entry_counts ++ end ∷ [])
  pushed_counts list leaf entry_counts end are is fits =
      let at : end ≡ (0 + length (all_entries list)) + length leaf = omega (arith, is) in
      record {
        each = ap (λ es. es ++ end ∷ []) are.each ∙ ap (λ n. counts_after 0 list ++ n ∷ []) at ∙ sym (counts_push 0 list leaf);
        fits = omega (arith, is, fits, ap length (all_push list leaf), length-append (all_entries list) leaf);
      }

pub pushed_list : {K C : Type 0} (cmp : K → K → Ordering) (valid : C → Type 0) (list : List (List (K × C))) (leaf : List (K × C)) → IsLeafList cmp valid list → IsTable cmp valid (all_entries list ++ leaf) → IsLeaf leaf → IsLeafList cmp valid (list ++ leaf ∷ [])
pushed_list cmp valid list leaf leaf_list table size = record {
  sizes = each_append (λ l. IsLeaf l) list (leaf ∷ []) leaf_list.sizes (size, tt);
  table = rw (all_push list leaf) table;
}

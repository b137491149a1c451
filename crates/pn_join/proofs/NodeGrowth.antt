-- Nodes added to a list, and the first nodes of one.
use Rattle.std.proofs.Common.{◌≡◌, ℕ, zero, suc, ◌+◌, ◌<◌, ◌≤◌, List, [], ◌∷◌, ◌++◌, ◌-◌, min, length, get_or, take, drop, slice_range, Ordering, refl, sym, ap, ◌∙◌, arith, append_assoc, take-append-drop}
use Rattle.std.proofs.lemmas.List.{length-append, length-drop, take_min}
use Rattle.std.proofs.lemmas.List.Concat.{flat_map-append}
use Rattle.std.specs.List.{AllByRecursion}
use Rattle.pn_join.specs.NodeLeaves.{in_nodes, entries_in, AreNodes}
use Rattle.pn_join.specs.Leaves.{all_entries, IsLeaf, IsLeafList}
use Rattle.pn_join.specs.Tables.{IsTable}
use Rattle.pn_join.proofs.NodeFacts.{take_whole}
use Rattle.pn_join.proofs.ListFacts.{each_prefix, each_back, each_append}
use Rattle.pn_join.proofs.LeafFacts.{all_push}
use Rattle.pn_join.proofs.Rising.{Rising-from_sorted, sorted_from_Rising, Rising-back}
use Rattle.pn_join.proofs.SliceFacts.{IsTable-prefix}

pub all_append : {A : Type 0} (xs ys : List (List A)) → all_entries (xs ++ ys) ≡ all_entries xs ++ all_entries ys
all_append xs ys = flat_map-append (λ leaf. leaf) xs ys

pub in_nodes-push : {A : Type 0} (nodes : List (List (List A))) (node : List (List A)) → in_nodes (nodes ++ node ∷ []) ≡ in_nodes nodes ++ all_entries node ∷ []
in_nodes-push [] node = refl
in_nodes-push (b ∷ bs) node = ap (λ es. all_entries b ∷ es) (in_nodes-push bs node)

-- the entries with those of a node after all others
pub entries_push : {A : Type 0} (nodes : List (List (List A))) (node : List (List A)) → entries_in (nodes ++ node ∷ []) ≡ entries_in nodes ++ all_entries node
entries_push nodes node = ap all_entries (all_push nodes node) ∙ all_append (all_entries nodes) node

module _ {K X : Type 0} (cmp : K → K → Ordering) (valid : X → Type 0) where
  -- the last entries of a table
  pub IsTable-back : (xs ys : List (K × X)) → IsTable cmp valid (xs ++ ys) → IsTable cmp valid ys
  IsTable-back xs ys table = record {
    rising = sorted_from_Rising cmp ys (Rising-back cmp xs ys (Rising-from_sorted cmp (xs ++ ys) table.rising));
    contents = each_back (λ e. valid e.1) xs ys table.contents;
  }

  -- a slice of a table
  pub slice_table : (es : List (K × X)) (from to : ℕ) → IsTable cmp valid es → IsTable cmp valid (slice_range es from to)
  slice_table es from to table =
      let rest : IsTable cmp valid (drop from es) = IsTable-back (take from es) (drop from es) (rw (take-append-drop from es) table) in
      IsTable-prefix cmp valid (take (to - from) (drop from es)) (drop (to - from) (drop from es)) (rw (take-append-drop (to - from) (drop from es)) rest)

  -- the first leaves of a list
  pub IsLeafList-prefix : (xs ys : List (List (K × X))) → IsLeafList cmp valid (xs ++ ys) → IsLeafList cmp valid xs
  IsLeafList-prefix xs ys leaf_list = record {
    sizes = each_prefix (λ leaf. IsLeaf leaf) xs ys leaf_list.sizes;
    table = IsTable-prefix cmp valid (all_entries xs) (all_entries ys) (rw (all_append xs ys) at leaf_list.table);
  }

  -- the last leaves of a list
  pub IsLeafList-back : (xs ys : List (List (K × X))) → IsLeafList cmp valid (xs ++ ys) → IsLeafList cmp valid ys
  IsLeafList-back xs ys leaf_list = record {
    sizes = each_back (λ leaf. IsLeaf leaf) xs ys leaf_list.sizes;
    table = IsTable-back (all_entries xs) (all_entries ys) (rw (all_append xs ys) at leaf_list.table);
  }

  -- the first nodes of a list
  pub first_nodes : (nodes : List (List (List (K × X)))) (k : ℕ) → AreNodes cmp valid nodes → AreNodes cmp valid (take k nodes)
  first_nodes nodes k are =
      let whole : take k nodes ++ drop k nodes ≡ nodes = take-append-drop k nodes in
      record {
        some = each_prefix (λ node. 0 < length node) (take k nodes) (drop k nodes) (rw whole are.some);
        leaf_list = IsLeafList-prefix (all_entries (take k nodes)) (all_entries (drop k nodes)) (rw (ap all_entries (sym whole) ∙ all_append (take k nodes) (drop k nodes)) at are.leaf_list);
      }

  -- a node after all others
  pub pushed_nodes : (nodes : List (List (List (K × X)))) (node : List (List (K × X))) → AreNodes cmp valid nodes → AllByRecursion (λ leaf. IsLeaf leaf) node → 0 < length node → IsTable cmp valid (entries_in nodes ++ all_entries node) → AreNodes cmp valid (nodes ++ node ∷ [])
  pushed_nodes nodes node are sizes one table = record {
    some = each_append (λ b. 0 < length b) nodes (node ∷ []) are.some (one, tt);
    leaf_list = rw (all_push nodes node) (record {
      sizes = each_append (λ leaf. IsLeaf leaf) (all_entries nodes) node are.leaf_list.sizes sizes;
      table = rw (all_append (all_entries nodes) node) table;
    });
  }

-- leaves whose entries begin with those of some leaves
pub some_leaves : {A : Type 0} (list first : List (List A)) (more : List A) → 0 < length first → AllByRecursion (λ leaf. IsLeaf leaf) first → all_entries list ≡ all_entries first ++ more → 0 < length list
some_leaves list [] more some sizes is = absurd (omega (arith, some))
some_leaves [] (leaf ∷ first) more some sizes is =
    absurd (omega (arith, sizes.0.0, ap length is, length-append (leaf ++ all_entries first) more, length-append leaf (all_entries first)))
some_leaves (l ∷ ls) (leaf ∷ first) more some sizes is = omega arith

-- a slice up to the end
pub slice_to_end : {A : Type 0} (es : List A) (from to end : ℕ) → end ≡ min to (length es) → slice_range es from end ≡ slice_range es from to
slice_to_end es from to end is =
    let rest = drop from es in
    let long : length rest ≡ length es - from = length-drop from es in
    let shorter : end - from ≡ min (to - from) (length rest) = omega (arith, is, long) in
    ap (λ n. take n rest) shorter ∙ take_min (to - from) rest

-- the slice of all
pub whole_slice : {A : Type 0} (xs : List A) (n : ℕ) → n ≡ length xs → slice_range xs 0 n ≡ xs
whole_slice xs n is =
    let all : length xs ≤ n - 0 = omega (arith, is) in
    take_whole xs (n - 0) all

module _ {A : Type 0} where
  one_dropped : (list : List A) (next : ℕ) (leaf d : A) → next < length list → leaf ≡ get_or list next d → leaf ∷ drop (next + 1) list ≡ drop next list
  one_dropped [] next leaf d lt is = absurd (omega (arith, lt))
  one_dropped (x ∷ xs) zero leaf d lt is = ap (λ y. y ∷ xs) is
  one_dropped (x ∷ xs) (suc i) leaf d lt is =
      let at : suc i + 1 ≡ suc (i + 1) = omega arith in
      ap (λ n. leaf ∷ drop n (x ∷ xs)) at ∙ one_dropped xs i leaf d (omega (arith, lt)) is

  -- an item goes from those that are left to those so far
  pub next_parted : (list back : List A) (next index : ℕ) (leaf d : A) → next < length list → leaf ≡ get_or list next d → back ++ drop next list ≡ drop index list → (back ++ leaf ∷ []) ++ drop (next + 1) list ≡ drop index list
  next_parted list back next index leaf d lt is parted =
      append_assoc back (leaf ∷ []) (drop (next + 1) list) ∙ ap (λ ls. back ++ ls) (one_dropped list next leaf d lt is) ∙ parted

-- the leaves so far and the next one are leaves of a table
pub next_leaves : {K X : Type 0} (cmp : K → K → Ordering) (valid : X → Type 0) (list back : List (List (K × X))) (next index : ℕ) (leaf : List (K × X)) → IsLeafList cmp valid list → next < length list → leaf ≡ get_or list next [] → back ++ drop next list ≡ drop index list → IsLeafList cmp valid (back ++ leaf ∷ [])
next_leaves cmp valid list back next index leaf leaf_list lt is parted =
    let last : IsLeafList cmp valid (drop index list) = IsLeafList-back cmp valid (take index list) (drop index list) (rw (take-append-drop index list) leaf_list) in
    IsLeafList-prefix cmp valid (back ++ leaf ∷ []) (drop (next + 1) list) (rw (next_parted list back next index leaf [] lt is parted) last)

-- Nodes at the end of a row: added, taken off, and its last entry.
use Rattle.std.proofs.Common.{◌≡◌, ℕ, zero, suc, ◌+◌, ◌-◌, ◌^◌, ◌<◌, ◌≤◌, List, [], ◌∷◌, ◌++◌, length, take, drop, Option, Some, None, IfSome, unwrap_or, option_map, Ordering, refl, sym, ap, ◌∙◌, arith, take-append-drop, map, append-nil, append_assoc, Bool, false, get_or, slice_get, is_lt}
use Rattle.std.specs.List.{AllByRecursion}
use Rattle.std.proofs.lemmas.List.{length-append, length-drop}
use Rattle.pn_join.specs.NodeLeaves.{in_nodes, entries_in, AreNodes}
use Rattle.pn_join.specs.Counts.{AreCounts, entry_ends, leaf_ends}
use Rattle.pn_join.specs.Leaves.{all_entries, IsLeaf, IsLeafList, ends_below, last_of}
use Rattle.pn_join.specs.Nodes.{both, AreParts}
use Rattle.pn_join.specs.declared.table.counts.Sizes.{Sizes}
use Rattle.pn_join.proofs.NodeFacts.{all_in_nodes, take_whole, take_nodes, at_node, node_there, node_missing, nodes_some, length-in_nodes, some_entries}
use Rattle.pn_join.proofs.NodeGrowth.{all_append, IsLeafList-back, IsLeafList-prefix, entries_push, IsTable-back}
use Rattle.pn_join.proofs.ListFacts.{each_back, each_prefix}
use Rattle.std.specs.Option.{option_to_list, option_map_or}
use Rattle.pn_join.specs.Tables.{IsTable}
use Rattle.pn_join.proofs.Lasts.{map-take, last_one, last_next}
use Rattle.pn_join.proofs.SliceFacts.{first_counts, IsTable-prefix}

-- the last nodes of a row have no more entries and leaves than all
pub last_fit : {A : Type 0} (nodes : List (List (List A))) (ends : List Sizes) (k : ℕ) → AreCounts nodes ends → (length (entries_in (drop k nodes)) < 2 ^ 64) × (length (all_entries (drop k nodes)) < 2 ^ 64)
last_fit nodes ends k are =
    let whole = take-append-drop k nodes in
    let leaves = ap all_entries (sym whole) ∙ all_append (take k nodes) (drop k nodes) in
    let entries = ap all_entries leaves ∙ all_append (all_entries (take k nodes)) (all_entries (drop k nodes)) in (
      omega (arith, are.entries.fits, ap length (all_in_nodes nodes), ap length entries, length-append (entries_in (take k nodes)) (entries_in (drop k nodes))),
      omega (arith, are.leaves.fits, ap length leaves, length-append (all_entries (take k nodes)) (all_entries (drop k nodes))),
    )

module _ {K X : Type 0} (cmp : K → K → Ordering) (valid : X → Type 0) where
  -- the last nodes of a row
  pub last_nodes : (nodes : List (List (List (K × X)))) (k : ℕ) → AreNodes cmp valid nodes → AreNodes cmp valid (drop k nodes)
  last_nodes nodes k are =
      let whole : take k nodes ++ drop k nodes ≡ nodes = take-append-drop k nodes in
      record {
        some = each_back (λ node. 0 < length node) (take k nodes) (drop k nodes) (rw whole are.some);
        leaf_list = IsLeafList-back cmp valid (all_entries (take k nodes)) (all_entries (drop k nodes)) (rw (ap all_entries (sym whole) ∙ all_append (take k nodes) (drop k nodes)) at are.leaf_list);
      }

  -- each node has the leaves of a table
  pub each_list : (nodes : List (List (List (K × X)))) → IsLeafList cmp valid (all_entries nodes) → AllByRecursion (λ node. IsLeafList cmp valid node) nodes
  each_list [] list = tt
  each_list (n ∷ ns) list = (IsLeafList-prefix cmp valid n (all_entries ns) list, each_list ns (IsLeafList-back cmp valid n (all_entries ns) list))

module _ {A : Type 0} where
  -- the slice from an index on
  pub rest_range : (xs : List A) (n : ℕ) → take (length xs - n) (drop n xs) ≡ drop n xs
  rest_range xs n = take_whole (drop n xs) (length xs - n) (omega (arith, length-drop n xs))

module _ {A : Type 0} where
  -- nodes with leaves have leaves together
  pub leaves_there : (nodes : List (List (List A))) → 0 < length nodes → AllByRecursion (λ node. 0 < length node) nodes → 0 < length (all_entries nodes)
  leaves_there [] one some = absurd (omega (arith, one))
  leaves_there (n ∷ ns) one some = omega (arith, some.0, length-append n (all_entries ns))

  -- the leaves of a row whose last nodes were taken off
  pub split_leaves : (row : List (List (List A))) (back : Option (List (List (List A)))) → both (all_entries row) (option_map all_entries back) ≡ all_entries (row ++ unwrap_or back [])
  split_leaves row None = sym (all_append row [])
  split_leaves row (Some back) = sym (all_append row back)

  -- a row with nodes, and the row of those taken off, if there are any
  pub split_parts : (whole row : List (List (List A))) (back : Option (List (List (List A)))) → whole ≡ row ++ unwrap_or back [] → AllByRecursion (λ node. 0 < length node) whole → AllByRecursion (λ leaf. IsLeaf leaf) (all_entries whole) → 0 < length row → IfSome back (λ b. 0 < length b) → AreParts (all_entries row) (option_map all_entries back)
  split_parts whole row back is each sizes some more =
      let parted = rw is at each in
      record {
        sizes = rw (split_leaves row back) (rw is at sizes);
        some = leaves_there row some (each_prefix (λ node. 0 < length node) row (unwrap_or back []) parted);
        more = of_back back (each_back (λ node. 0 < length node) row (unwrap_or back []) parted) more;
      } where
        of_back : (back : Option (List (List (List A)))) → AllByRecursion (λ node. 0 < length node) (unwrap_or back []) → IfSome back (λ b. 0 < length b) → IfSome (option_map all_entries back) (λ leaves. 0 < length leaves)
        of_back None has more = tt
        of_back (Some b) has more = leaves_there b more has

-- the counts of the first nodes
pub first_ends : {A : Type 0} (nodes : List (List (List A))) (ends : List Sizes) (k : ℕ) → AreCounts nodes ends → AreCounts (take k nodes) (take k ends)
first_ends nodes ends k are = record {
  entries = rw (map-take (λ (e : Sizes). e.entries) k ends, sym (take_nodes k nodes)) (first_counts (in_nodes nodes) (entry_ends ends) k are.entries);
  leaves = rw (map-take (λ (e : Sizes). e.leaves) k ends) (first_counts nodes (leaf_ends ends) k are.leaves);
}

-- the last node, if there is one
pub mapped_last : {A B : Type 0} (f : A → B) (all rest : List A) (last : Option A) → all ≡ rest ++ option_to_list last → map f all ≡ map f rest ++ option_to_list (option_map f last)
mapped_last f all rest last is = ap (map f) is ∙ parts rest last where
  parts : (rest : List _) (last : Option _) → map f (rest ++ option_to_list last) ≡ map f rest ++ option_to_list (option_map f last)
  parts [] None = refl
  parts [] (Some x) = refl
  parts (y ∷ ys) last = ap (λ zs. f y ∷ zs) (parts ys last)

module _ {K C : Type 0} (cmp : K → K → Ordering) (valid : C → Type 0) where
  -- the last node of a row, and those before it
  pub last_node : (nodes rest : List (List (List (K × C)))) (last : List (List (K × C))) → nodes ≡ rest ++ last ∷ [] → AreNodes cmp valid nodes → (entries_in nodes ≡ entries_in rest ++ all_entries last) × (0 < length last) × AllByRecursion (λ leaf. IsLeaf leaf) last
  last_node nodes rest last is are =
      let some = rw is at are.some in
      let sizes = rw (is, all_append rest (last ∷ []), append-nil last) at are.leaf_list.sizes in
      (ap entries_in is ∙ entries_push rest last, (each_back (λ node. 0 < length node) rest (last ∷ []) some).0, each_back (λ leaf. IsLeaf leaf) (all_entries rest) last sizes)

  -- what was there, two parts, and the first of them
  pub first_table : (own one two : List (K × C)) → IsTable cmp valid (own ++ (one ++ two)) → IsTable cmp valid (own ++ one)
  first_table own one two table = IsTable-prefix cmp valid (own ++ one) two (rw (append_assoc own one two) table)

  -- the leaves of a part of a table
  pub part_leaves : (own : List (K × C)) (node : List (List (K × C))) → AllByRecursion (λ leaf. IsLeaf leaf) node → IsTable cmp valid (own ++ all_entries node) → IsLeafList cmp valid node
  part_leaves own node sizes table = record { sizes = sizes; table = IsTable-back cmp valid own (all_entries node) table }

module _ {A : Type 0} where
  last_append : (xs ys : List A) → 0 < length ys → last_of (xs ++ ys) ≡ last_of ys
  last_append [] ys some = refl
  last_append (x ∷ []) [] some = absurd (omega (arith, some))
  last_append (x ∷ []) (y ∷ ys) some = last_next x y ys
  last_append (x ∷ z ∷ xs) ys some = last_next x z (xs ++ ys) ∙ last_append (z ∷ xs) ys some

  last_in : (lists : List (List A)) → AllByRecursion (λ list. 0 < length list) lists → 0 < length lists → last_of (all_entries lists) ≡ last_of (get_or lists (length lists - 1) [])
  last_in [] some one = absurd (omega (arith, one))
  last_in (l ∷ []) some one =
      let at : length (l ∷ []) - 1 ≡ 0 = omega arith in
      ap last_of (append-nil l) ∙ ap (λ i. last_of (get_or (l ∷ []) i [])) (sym at)
  last_in (l ∷ m ∷ ls) some one =
      let at : length (l ∷ m ∷ ls) - 1 ≡ suc (length (m ∷ ls) - 1) = omega arith in
      last_append l (all_entries (m ∷ ls)) (some_entries (m ∷ ls) (omega arith) some.1)
      ∙ last_in (m ∷ ls) some.1 (omega arith)
      ∙ ap (λ i. last_of (get_or (l ∷ m ∷ ls) i [])) (sym at)

module _ {K C : Type 0} (cmp : K → K → Ordering) (valid : C → Type 0) (nodes : List (List (List (K × C)))) (are : AreNodes cmp valid nodes) where
  some_there : (ns : List (List (List (K × C)))) (i : ℕ) (node : List (List (K × C))) → Some node ≡ slice_get ns i → 0 < length ns
  some_there [] i node is = cc
  some_there (n ∷ ns) i node is = omega arith

  pub last_of_row : (i : ℕ) (node : List (List (K × C))) → i ≡ length nodes - 1 → Some node ≡ slice_get nodes i → last_of (entries_in nodes) ≡ last_of (all_entries node)
  last_of_row i node at is =
      let long = length-in_nodes nodes in
      let same : length (in_nodes nodes) - 1 ≡ i = omega (arith, at, long) in
      ap last_of (sym (all_in_nodes nodes))
      ∙ last_in (in_nodes nodes) (nodes_some cmp valid nodes are) (omega (arith, long, some_there nodes i node is))
      ∙ ap (λ j. last_of (get_or (in_nodes nodes) j [])) same
      ∙ ap last_of (at_node nodes i ∙ ap all_entries (node_there nodes i node is))

  pub no_last_of_row : (i : ℕ) → i ≡ length nodes - 1 → None ≡ slice_get nodes i → None ≡ last_of (entries_in nodes)
  no_last_of_row i at is = none nodes i at is where
    none : (ns : List (List (List (K × C)))) (i : ℕ) → i ≡ length ns - 1 → None ≡ slice_get ns i → None ≡ last_of (entries_in ns)
    none [] i at is = refl
    none (n ∷ ns) i at is = absurd (there (n ∷ ns) i (omega (arith, at)) is) where
      there : (ms : List (List (List (K × C)))) (j : ℕ) → j < length ms → None ≡ slice_get ms j → ⊥
      there [] j lt is = omega (arith, lt)
      there (m ∷ ms) zero lt is = cc
      there (m ∷ ms) (suc j) lt is = there ms j (omega (arith, lt)) is

-- whether entries end below a key is seen at the last
module _ {K C : Type 0} (cmp : K → K → Ordering) (key : K) where
  pub ends_by_last : (es : List (K × C)) → option_map_or (λ k. is_lt (cmp k key)) (option_map (λ (e : K × C). e.0) (last_of es)) false ≡ ends_below cmp key es
  ends_by_last [] = refl
  ends_by_last (e ∷ []) = ap (λ o. option_map_or (λ k. is_lt (cmp k key)) (option_map (λ (e : K × C). e.0) o) false) (last_one e)
  ends_by_last (e ∷ f ∷ es) = ap (λ o. option_map_or (λ k. is_lt (cmp k key)) (option_map (λ (e : K × C). e.0) o) false) (last_next e f es) ∙ ends_by_last (f ∷ es)

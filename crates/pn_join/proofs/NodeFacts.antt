-- The entries of nodes, and searches in them.
use Rattle.std.proofs.Common.{◌≡◌, ℕ, zero, suc, ◌+◌, ◌-◌, ◌<◌, ◌≤◌, Bool, cond, leb, List, [], ◌∷◌, ◌++◌, length, get_or, slice_get, take, drop, min, Some, None, unwrap_or, Ordering, refl, sym, ap, ◌∙◌, arith, append-nil}
use Rattle.std.specs.List.{AllByRecursion, prefix_len}
use Rattle.std.specs.List.Sorted.{IsPartitionedBy}
use Rattle.std.specs.Cmp.{IsTotalOrder}
use Rattle.std.specs.FinMap.{find}
use Rattle.std.proofs.lemmas.List.{length-append, drop-drop}
use Rattle.std.proofs.lemmas.List.Concat.{flat_map-append}
use Rattle.pn_join.specs.NodeLeaves.{in_nodes, entries_in, AreNodes}
use Rattle.pn_join.specs.Leaves.{all_entries, counts_after, begins_below, ends_below, leaf_for, IsLeaf, IsLeafList}
use Rattle.pn_join.proofs.ListFacts.{each_at, each_prefix, each_back, each_weaker}
use Rattle.pn_join.proofs.LeafListIndices.{leaf_at, leaf_at-prefix, entry_in_list, rest_in_list}
use Rattle.pn_join.proofs.LeafListSearch.{parted, leaf_for-search, find_in_list}
use Rattle.pn_join.proofs.Rising.{Rising, Rising-from_sorted}

pub take_whole : {A : Type 0} (xs : List A) (n : ℕ) → length xs ≤ n → take n xs ≡ xs
take_whole [] zero le = refl
take_whole [] (suc n) le = refl
take_whole (x ∷ xs) zero le = absurd (omega (arith, le))
take_whole (x ∷ xs) (suc n) le = ap (λ ys. x ∷ ys) (take_whole xs n (omega (arith, le)))

module _ {A : Type 0} where
  -- the entries of all nodes, node by node
  pub all_in_nodes : (nodes : List (List (List A))) → all_entries (in_nodes nodes) ≡ entries_in nodes
  all_in_nodes [] = refl
  all_in_nodes (b ∷ bs) = ap (λ es. all_entries b ++ es) (all_in_nodes bs) ∙ sym (flat_map-append (λ leaf. leaf) b (all_entries bs))

  pub length-in_nodes : (nodes : List (List (List A))) → length (in_nodes nodes) ≡ length nodes
  length-in_nodes [] = refl
  length-in_nodes (b ∷ bs) = ap suc (length-in_nodes bs)

  pub at_node : (nodes : List (List (List A))) (i : ℕ) → get_or (in_nodes nodes) i [] ≡ all_entries (get_or nodes i [])
  at_node [] i = refl
  at_node (b ∷ bs) zero = refl
  at_node (b ∷ bs) (suc i) = at_node bs i

  pub take_nodes : (n : ℕ) (nodes : List (List (List A))) → take n (in_nodes nodes) ≡ in_nodes (take n nodes)
  take_nodes zero nodes = refl
  take_nodes (suc n) [] = refl
  take_nodes (suc n) (b ∷ bs) = ap (λ es. all_entries b ∷ es) (take_nodes n bs)

  pub drop_nodes : (n : ℕ) (nodes : List (List (List A))) → drop n (in_nodes nodes) ≡ in_nodes (drop n nodes)
  drop_nodes zero nodes = refl
  drop_nodes (suc n) [] = refl
  drop_nodes (suc n) (b ∷ bs) = drop_nodes n bs

  -- what holds of each leaf of all nodes holds of those of each node
  pub each_leaf : (P : List A → Type 0) (nodes : List (List (List A))) → AllByRecursion P (all_entries nodes) → AllByRecursion (λ node. AllByRecursion P node) nodes
  each_leaf P [] h = tt
  each_leaf P (b ∷ bs) h = (each_prefix P b (all_entries bs) h, each_leaf P bs (each_back P b (all_entries bs) h))

  -- a node has entries
  pub some_entries : (node : List (List A)) → 0 < length node → AllByRecursion (λ leaf. 0 < length leaf) node → 0 < length (all_entries node)
  some_entries [] one some = absurd (omega (arith, one))
  some_entries (l ∷ ls) one some = omega (arith, some.0, length-append l (all_entries ls))

  each_has : (nodes : List (List (List A))) → AllByRecursion (λ node. 0 < length node) nodes → AllByRecursion (λ node. AllByRecursion (λ leaf. 0 < length leaf) node) nodes → AllByRecursion (λ entries. 0 < length entries) (in_nodes nodes)
  each_has [] one some = tt
  each_has (b ∷ bs) one some = (some_entries b one.0 some.0, each_has bs one.1 some.1)

module _ {K X : Type 0} (cmp : K → K → Ordering) (valid : X → Type 0) where
  pub some_leaves : (leaves : List (List (K × X))) → IsLeafList cmp valid leaves → AllByRecursion (λ leaf. 0 < length leaf) leaves
  some_leaves leaves leaf_list = each_weaker (λ leaf. IsLeaf leaf) (λ leaf. 0 < length leaf) (λ leaf is. is.0) leaves leaf_list.sizes

  -- each leaf of a node has entries
  pub each_leaf_has : (nodes : List (List (List (K × X)))) (i : ℕ) → AreNodes cmp valid nodes → i < length nodes → AllByRecursion (λ leaf. 0 < length leaf) (get_or nodes i [])
  each_leaf_has nodes i are lt = each_at (λ node. AllByRecursion (λ leaf. 0 < length leaf) node) nodes i [] (each_leaf (λ leaf. 0 < length leaf) nodes (some_leaves (all_entries nodes) are.leaf_list)) lt

  -- each node has entries
  pub nodes_some : (nodes : List (List (List (K × X)))) → AreNodes cmp valid nodes → AllByRecursion (λ entries. 0 < length entries) (in_nodes nodes)
  nodes_some nodes are = each_has nodes are.some (each_leaf (λ leaf. 0 < length leaf) nodes (some_leaves (all_entries nodes) are.leaf_list))

  -- the keys rise from node to node
  pub nodes_rising : (nodes : List (List (List (K × X)))) → AreNodes cmp valid nodes → Rising cmp (all_entries (in_nodes nodes))
  nodes_rising nodes are = rw (all_in_nodes nodes) (Rising-from_sorted cmp (entries_in nodes) are.leaf_list.table.rising)

  -- the content at a key, by the node that the key belongs into
  pub found_in_node : (key : K) (o : IsTotalOrder cmp) (nodes : List (List (List (K × X)))) → AreNodes cmp valid nodes → (i : ℕ) → i ≡ leaf_for cmp key (in_nodes nodes) → find cmp key (entries_in nodes) ≡ find cmp key (get_or (in_nodes nodes) i [])
  found_in_node key o nodes are i at =
      ap (find cmp key) (sym (all_in_nodes nodes))
      ∙ find_in_list cmp key o (in_nodes nodes) (nodes_some nodes are) (nodes_rising nodes are)
      ∙ ap (λ j. find cmp key (get_or (in_nodes nodes) j [])) (sym at)

  -- a node's last key, by its last leaf
  abbrev pub node_ends_below : K → List (List (K × X)) → Bool
  node_ends_below key node = ends_below cmp key (all_entries node)

  pub nodes_parted : (key : K) (o : IsTotalOrder cmp) (nodes : List (List (List (K × X)))) → AreNodes cmp valid nodes → IsPartitionedBy (node_ends_below key) nodes
  nodes_parted key o nodes are i j d le lt p =
      let list = in_nodes nodes in
      let within : j < length list = omega (arith, lt, length-in_nodes nodes) in
      let first : i < length nodes = omega (arith, le, lt) in
      ap (node_ends_below key) (same_at_node nodes i d first) ∙ ap (ends_below cmp key) (sym (at_node nodes i))
      ∙ parted cmp key o list (nodes_some nodes are) (nodes_rising nodes are) i j le within
      (ap (ends_below cmp key) (at_node nodes j) ∙ ap (node_ends_below key) (sym (same_at_node nodes j d lt)) ∙ p) where
        same_at_node : (bs : List (List (List (K × X)))) (i : ℕ) (d : List (List (K × X))) → i < length bs → get_or bs i d ≡ get_or bs i []
        same_at_node [] i d lt = absurd (omega (arith, lt))
        same_at_node (b ∷ bs) zero d lt = refl
        same_at_node (b ∷ bs) (suc i) d lt = same_at_node bs i d (omega (arith, lt))

  prefix_of_nodes : (key : K) (nodes : List (List (List (K × X)))) → prefix_len (λ entries. ends_below cmp key entries) (in_nodes nodes) ≡ prefix_len (node_ends_below key) nodes
  prefix_of_nodes key [] = refl
  prefix_of_nodes key (b ∷ bs) = ap (λ n. cond (node_ends_below key b) (1 + n) 0) (prefix_of_nodes key bs)

  pub node_searched : (key : K) (o : IsTotalOrder cmp) (nodes : List (List (List (K × X)))) (n last : ℕ) → n ≡ prefix_len (node_ends_below key) nodes → last ≡ length nodes - 1 → min n last ≡ leaf_for cmp key (in_nodes nodes)
  node_searched key o nodes n last is at =
      let same : last ≡ length (in_nodes nodes) - 1 = omega (arith, at, length-in_nodes nodes) in
      ap (λ k. min k last) (is ∙ sym (prefix_of_nodes key nodes))
      ∙ ap (min (prefix_len (λ entries. ends_below cmp key entries) (in_nodes nodes))) same
      ∙ sym (leaf_for-search cmp key o (in_nodes nodes))

module _ {A : Type 0} where
  -- a node with entries has leaves
  pub has_leaves : (node : List (List A)) → 0 < length (all_entries node) → 0 < length node
  has_leaves [] some = absurd (omega (arith, some))
  has_leaves (l ∷ ls) some = omega arith

  pub there_or_none : (nodes : List (List (List A))) (i : ℕ) → unwrap_or (slice_get nodes i) [] ≡ get_or nodes i []
  there_or_none [] i = refl
  there_or_none (b ∷ bs) zero = refl
  there_or_none (b ∷ bs) (suc i) = there_or_none bs i

  pub drop_next : (nodes : List (List (List A))) (i : ℕ) → drop 1 (drop i nodes) ≡ drop (suc i) nodes
  drop_next [] zero = refl
  drop_next [] (suc i) = refl
  drop_next (b ∷ bs) zero = refl
  drop_next (b ∷ bs) (suc i) = drop_next bs i

  -- the node that is at an index
  pub node_there : (nodes : List (List (List A))) (i : ℕ) (node : List (List A)) → Some node ≡ slice_get nodes i → get_or nodes i [] ≡ node
  node_there [] i node is = cc
  node_there (b ∷ bs) zero node is = cc
  node_there (b ∷ bs) (suc i) node is = node_there bs i node is

  pub node_missing : (nodes : List (List (List A))) (i : ℕ) → None ≡ slice_get nodes i → get_or nodes i [] ≡ []
  node_missing [] i is = refl
  node_missing (b ∷ bs) zero is = cc
  node_missing (b ∷ bs) (suc i) is = node_missing bs i is

  -- the leaf at an index stands in this node
  pub leaf_in_node : (nodes : List (List (List A))) (index i : ℕ) → i ≡ prefix_len (λ end. leb end index) (counts_after 0 nodes) → slice_get (all_entries nodes) index ≡ slice_get (get_or nodes i []) (index - length (all_entries (take i nodes)))
  leaf_in_node nodes index i at =
      let same : 0 + index ≡ index = omega arith in
      let is : i ≡ leaf_at 0 index nodes = at ∙ leaf_at-prefix 0 index nodes in
      rw (same, ← is) at (entry_in_list 0 index nodes)

  -- the entry at an index stands in this node
  pub entry_in_node : (nodes : List (List (List A))) (index i : ℕ) → i ≡ prefix_len (λ end. leb end index) (counts_after 0 (in_nodes nodes)) → slice_get (entries_in nodes) index ≡ slice_get (all_entries (get_or nodes i [])) (index - length (all_entries (take i (in_nodes nodes))))
  entry_in_node nodes index i at =
      let same : 0 + index ≡ index = omega arith in
      let is : i ≡ leaf_at 0 index (in_nodes nodes) = at ∙ leaf_at-prefix 0 index (in_nodes nodes) in
      let there : slice_get (all_entries (in_nodes nodes)) index ≡ slice_get (get_or (in_nodes nodes) i []) (index - length (all_entries (take i (in_nodes nodes)))) = rw (same, ← is) at (entry_in_list 0 index (in_nodes nodes)) in
      ap (λ es. slice_get es index) (sym (all_in_nodes nodes)) ∙ there
      ∙ ap (λ es. slice_get es (index - length (all_entries (take i (in_nodes nodes))))) (at_node nodes i)

  -- the entries from an index on: those left of its node, and those of the nodes after it
  pub rest_in_nodes : (nodes : List (List (List A))) (index i : ℕ) → i ≡ prefix_len (λ end. leb end index) (counts_after 0 (in_nodes nodes)) → drop index (entries_in nodes) ≡ drop (index - length (all_entries (take i (in_nodes nodes)))) (all_entries (get_or nodes i [])) ++ entries_in (drop (suc i) nodes)
  rest_in_nodes nodes index i at =
      let same : 0 + index ≡ index = omega arith in
      let n = index - length (all_entries (take i (in_nodes nodes))) in
      let is : i ≡ leaf_at 0 index (in_nodes nodes) = at ∙ leaf_at-prefix 0 index (in_nodes nodes) in
      let rest : drop index (all_entries (in_nodes nodes)) ≡ drop n (get_or (in_nodes nodes) i []) ++ all_entries (drop (suc i) (in_nodes nodes)) = rw (same, ← is) at (rest_in_list 0 index (in_nodes nodes)) in
      ap (drop index) (sym (all_in_nodes nodes)) ∙ rest
      ∙ ap (λ es. drop n es ++ all_entries (drop (suc i) (in_nodes nodes))) (at_node nodes i)
      ∙ ap (λ es. drop n (all_entries (get_or nodes i [])) ++ es) (ap all_entries (drop_nodes (suc i) nodes) ∙ all_in_nodes (drop (suc i) nodes))

-- the last of the entries are those of the last leaf
module _ {K X : Type 0} (cmp : K → K → Ordering) (key : K) where
  ends_after : (es fs : List (K × X)) → 0 < length fs → ends_below cmp key (es ++ fs) ≡ ends_below cmp key fs
  ends_after [] fs some = refl
  ends_after (e ∷ []) [] some = absurd (omega (arith, some))
  ends_after (e ∷ []) (f ∷ fs) some = refl
  ends_after (e ∷ f ∷ es) fs some = ends_after (f ∷ es) fs some

  pub ends_at_last : (node : List (List (K × X))) → AllByRecursion (λ leaf. 0 < length leaf) node → ends_below cmp key (all_entries node) ≡ ends_below cmp key (get_or node (length node - 1) [])
  ends_at_last [] some = refl
  ends_at_last (l ∷ []) some =
      let at : length (l ∷ []) - 1 ≡ 0 = omega arith in
      ap (ends_below cmp key) (append-nil l) ∙ ap (λ i. ends_below cmp key (get_or (l ∷ []) i [])) (sym at)
  ends_at_last (l ∷ m ∷ ls) some =
      let at : length (l ∷ m ∷ ls) - 1 ≡ suc (length (m ∷ ls) - 1) = omega arith in
      ends_after l (all_entries (m ∷ ls)) (some_entries (m ∷ ls) (omega arith) some.1)
      ∙ ends_at_last (m ∷ ls) some.1
      ∙ ap (λ i. ends_below cmp key (get_or (l ∷ m ∷ ls) i [])) (sym at)

  pub begins_at_first : (node : List (List (K × X))) → AllByRecursion (λ leaf. 0 < length leaf) node → begins_below cmp key (all_entries node) ≡ begins_below cmp key (get_or node 0 [])
  begins_at_first [] some = refl
  begins_at_first ([] ∷ ls) some = absurd (omega (arith, some.0))
  begins_at_first ((e ∷ es) ∷ ls) some = refl

-- entries that begin a list, and those that follow
module _ {A : Type 0} where
  drop_first : (first rest : List A) → drop (length first) (first ++ rest) ≡ rest
  drop_first [] rest = refl
  drop_first (x ∷ first) rest = drop_first first rest

  pub first_of_rest : (all first rest : List A) (index : ℕ) → drop index all ≡ first ++ rest → drop index all ≡ first ++ drop (index + length first) all
  first_of_rest all first rest index is =
      is ∙ ap (λ es. first ++ es) (sym (drop_first first rest) ∙ ap (drop (length first)) (sym is) ∙ drop-drop (length first) index all)

  pub none_of_rest : (all none : List A) (index : ℕ) → none ≡ [] → drop index all ≡ none ++ drop (index + length none) all
  none_of_rest all none index is = rw is (let same : index ≡ index + 0 = omega arith in ap (λ n. drop n all) same)

-- The node of a row that an index or a key comes into, and parts of a row's entries.
use Rattle.std.proofs.Common.{◌≡◌, ℕ, zero, suc, ◌+◌, ◌-◌, ◌<◌, ◌≤◌, true, false, cond, leb, List, [], ◌∷◌, ◌++◌, length, get_or, take, min, Result, Ok, Err, refl, sym, ap, ◌∙◌, arith, Ordering, drop, slice_range, take-append-drop}
use Rattle.std.specs.List.{prefix_len, AllByRecursion}
use Rattle.std.proofs.lemmas.Bool.Decides.{nat_tests}
use Rattle.std.proofs.lemmas.List.{length-append}
use Rattle.pn_join.specs.NodeLeaves.{in_nodes, entries_in, AreNodes}
use Rattle.pn_join.specs.Leaves.{all_entries, counts_after, ends_below, leaf_for, IsLeaf, IsLeafList}
use Rattle.pn_join.specs.PutAt.{place, from_start, IsAmong, moved_by}
use Rattle.pn_join.proofs.NodeFacts.{all_in_nodes, length-in_nodes, at_node, nodes_rising, nodes_some, found_in_node, has_leaves}
use Rattle.pn_join.proofs.LeafListIndices.{leaf_at, leaf_at-prefix}
use Rattle.pn_join.proofs.SliceFacts.{StandsIn, stands, part_some, part_within, part_begins}
use Rattle.std.specs.Cmp.{IsTotalOrder}
use Rattle.std.specs.FinMap.{find}
use Rattle.pn_join.specs.Indices.{index_of}
use Rattle.pn_join.proofs.LeafListSearch.{shifted, shifted-Ok, shifted-Err, index_in_list, leaf_for-at}
use Rattle.pn_join.specs.Tables.{IsTable}
use Rattle.pn_join.proofs.NodeGrowth.{slice_table}

module _ {A : Type 0} where
  -- an index comes into this one of several lists
  pub record ComesInto (lists : List (List A)) (i : ℕ) (index : Result ℕ ℕ) : Type 0 where
    pub within : i < length lists
    pub starts : length (all_entries (take i lists)) ≤ place index
    pub among : IsAmong (length (get_or lists i [])) (from_start (length (all_entries (take i lists))) index)
    pub before_end : place index ≤ length (all_entries (take i lists)) + length (get_or lists i [])
    pub at_end : place index ≡ length (all_entries (take i lists)) + length (get_or lists i []) → place index ≡ length (all_entries lists)

  past_all : (m index : ℕ) (lists : List (List A)) → m + length (all_entries lists) ≤ index → leaf_at m index lists ≡ length lists
  past_all m index [] le = refl
  past_all m index (l ∷ ls) le =
      let long = length-append l (all_entries ls) in
      let before : m + length l ≤ index = omega (arith, le, long) in
      let yes : leb (m + length l) index ≡ true = grind (arith, nat_tests) in
      ap (λ b. cond b (suc (leaf_at (m + length l) index ls)) 0) yes ∙ ap suc (past_all (m + length l) index ls (omega (arith, le, long)))

  -- the last list ends where all end
  last_ends : (lists : List (List A)) (i : ℕ) → i + 1 ≡ length lists → length (all_entries (take i lists)) + length (get_or lists i []) ≡ length (all_entries lists)
  last_ends [] i at = absurd (omega (arith, at))
  last_ends (l ∷ []) zero at = omega (arith, length-append l [])
  last_ends (l ∷ []) (suc i) at = absurd (omega (arith, at))
  last_ends (l ∷ m ∷ ls) zero at = absurd (omega (arith, at))
  last_ends (l ∷ m ∷ ls) (suc i) at = omega (arith, last_ends (m ∷ ls) i (omega (arith, at)), length-append l (all_entries (take i (m ∷ ls))), length-append l (all_entries (m ∷ ls)))

  -- the items up to the end of a list
  pub take_next : (lists : List (List A)) (i : ℕ) → length (all_entries (take (i + 1) lists)) ≡ length (all_entries (take i lists)) + length (get_or lists i [])
  take_next [] zero = omega arith
  take_next [] (suc i) =
      let next : suc i + 1 ≡ suc (i + 1) = omega arith in
      omega (arith, ap (λ n. length (all_entries (take {A = List A} n []))) next)
  take_next (l ∷ ls) zero = omega (arith, length-append l [])
  take_next (l ∷ ls) (suc i) =
      let next : suc i + 1 ≡ suc (i + 1) = omega arith in
      omega (arith, ap (λ n. length (all_entries (take n (l ∷ ls)))) next, take_next ls i, length-append l (all_entries (take (i + 1) ls)), length-append l (all_entries (take i ls)))

  module _ (lists : List (List A)) (some : 0 < length lists) (i at : ℕ) where
    inside_node : (n : ℕ) → n < length (all_entries lists) → at ≡ prefix_len (λ end. leb end n) (counts_after 0 lists) → i ≡ min at (length lists - 1) → StandsIn lists i n
    inside_node n lt found is =
        let here = stands lists at n (found ∙ leaf_at-prefix 0 n lists) lt in
        let same : at ≡ i = omega (arith, is, here.within) in
        rw same at here

    at_end : (n : ℕ) → n ≡ length (all_entries lists) → at ≡ prefix_len (λ end. leb end n) (counts_after 0 lists) → i ≡ min at (length lists - 1) → i + 1 ≡ length lists
    at_end n end found is = omega (arith, is, some, found, leaf_at-prefix 0 n lists, past_all 0 n lists (omega (arith, end)))

    -- the node that is searched for, or else the last
    pub comes_into : (index : Result ℕ ℕ) → IsAmong (length (all_entries lists)) index → at ≡ prefix_len (λ end. leb end (place index)) (counts_after 0 lists) → i ≡ min at (length lists - 1) → ComesInto lists i index
    comes_into (Ok n) among found is =
        let here = inside_node n among found is in
        record { within = here.within; starts = here.starts; among = omega (arith, here.starts, here.ends); before_end = omega (arith, here.ends); at_end = λ e. absurd (omega (arith, here.ends, e)) }
    comes_into (Err n) among found is =
        elim (leb (length (all_entries lists)) n) as (λ b. leb (length (all_entries lists)) n ≡ b → ComesInto lists i (Err n)) [
          | true ↦ λ p.
              let le : length (all_entries lists) ≤ n = grind (arith, nat_tests) in
              let end : n ≡ length (all_entries lists) = omega (arith, le, among) in
              let last = at_end n end found is in
              let ends = last_ends lists i last in
              record { within = omega (arith, last); starts = omega (arith, ends, end); among = omega (arith, ends, end); before_end = omega (arith, ends, end); at_end = λ e. end }
          | false ↦ λ p.
              let lt : n < length (all_entries lists) = grind (arith, nat_tests) in
              let here = inside_node n lt found is in
              record { within = here.within; starts = here.starts; among = omega (arith, here.starts, here.ends); before_end = omega (arith, here.ends); at_end = λ e. absurd (omega (arith, here.ends, e)) }
        ] refl

  -- the node of a row that an index comes into
  pub node_found : (nodes : List (List (List A))) → 0 < length nodes → (index : Result ℕ ℕ) → IsAmong (length (entries_in nodes)) index → (i at last : ℕ) → at ≡ prefix_len (λ end. leb end (place index)) (counts_after 0 (in_nodes nodes)) → i ≡ min at last → last ≡ length nodes - 1 → ComesInto (in_nodes nodes) i index
  node_found nodes some index among i at last found is end =
      let long = length-in_nodes nodes in
      let entries : length (entries_in nodes) ≡ length (all_entries (in_nodes nodes)) = ap length (sym (all_in_nodes nodes)) in
      comes_into (in_nodes nodes) (omega (arith, some, long)) i at index (rw entries at among) found (omega (arith, is, end, long))

module _ {K C : Type 0} (cmp : K → K → Ordering) (valid : C → Type 0) (key : K) (o : IsTotalOrder cmp) (nodes : List (List (List (K × C)))) (are : AreNodes cmp valid nodes) where
  pub searched : (low high : ℕ) → high ≤ low → low ≤ high → high ≤ length nodes - 1 → (0 < low → ends_below cmp key (get_or (in_nodes nodes) (low - 1) []) ≡ true) → (high + 1 < length nodes → ends_below cmp key (get_or (in_nodes nodes) high []) ≡ false) → low ≡ leaf_for cmp key (in_nodes nodes)
  searched low high le order within before here = found nodes are low high le order within before here where
    found : (ns : List (List (List (K × C)))) → AreNodes cmp valid ns → (low high : ℕ) → high ≤ low → low ≤ high → high ≤ length ns - 1 → (0 < low → ends_below cmp key (get_or (in_nodes ns) (low - 1) []) ≡ true) → (high + 1 < length ns → ends_below cmp key (get_or (in_nodes ns) high []) ≡ false) → low ≡ leaf_for cmp key (in_nodes ns)
    found [] are low high le order within before here = omega (arith, le, order, within)
    found (n ∷ ns) are low high le order within before here =
        let all = n ∷ ns in
        let same : high ≡ low = omega (arith, le, order) in
        let long = length-in_nodes all in
        leaf_for-at cmp key o (in_nodes all) (nodes_some cmp valid all are) (nodes_rising cmp valid all are) low (omega (arith, within, order, long))
        (λ i e.
        let at : low - 1 ≡ i = omega (arith, e) in
        ap (λ k. ends_below cmp key (get_or (in_nodes all) k [])) (sym at) ∙ before (omega (arith, e)))
        (λ more. ap (λ k. ends_below cmp key (get_or (in_nodes all) k [])) (sym same) ∙ here (omega (arith, more, same, long)))

  moved_is : (n : ℕ) (r : Result ℕ ℕ) → shifted n r ≡ moved_by n r
  moved_is n (Ok i) = shifted-Ok n i
  moved_is n (Err i) = shifted-Err n i

  -- the index of a key, by the node that it belongs into
  pub index_in_row : (i : ℕ) → i ≡ leaf_for cmp key (in_nodes nodes) → moved_by (length (all_entries (take i (in_nodes nodes)))) (index_of cmp key (get_or (in_nodes nodes) i [])) ≡ index_of cmp key (entries_in nodes)
  index_in_row i at =
      let list = in_nodes nodes in
      sym (moved_is (length (all_entries (take i list))) (index_of cmp key (get_or list i [])))
      ∙ ap (λ j. shifted (length (all_entries (take j list))) (index_of cmp key (get_or list j []))) at
      ∙ sym (index_in_list cmp key o list (nodes_some cmp valid nodes are) (nodes_rising cmp valid nodes are))
      ∙ ap (index_of cmp key) (all_in_nodes nodes)

  -- the content at a key, by the node that it belongs into
  pub found_in_row : (i : ℕ) → i ≡ leaf_for cmp key (in_nodes nodes) → find cmp key (get_or (in_nodes nodes) i []) ≡ find cmp key (entries_in nodes)
  found_in_row i at = sym (found_in_node cmp valid key o nodes are i at)

module _ {A : Type 0} (nodes : List (List (List A))) (from to i start : ℕ) (at : i ≡ prefix_len (λ end. leb end from) (counts_after 0 (in_nodes nodes))) (start_is : start ≡ length (all_entries (take i (in_nodes nodes)))) (some : from < to) (within : to ≤ length (entries_in nodes)) where
  found : i ≡ leaf_at 0 from (in_nodes nodes)
  found = at ∙ leaf_at-prefix 0 from (in_nodes nodes)

  stands_in : StandsIn (in_nodes nodes) i from
  stands_in = stands (in_nodes nodes) i from found (omega (arith, some, within, ap length (all_in_nodes nodes)))

  pub inside : i < length nodes
  inside = omega (arith, stands_in.within, length-in_nodes nodes)

  pub starts : start ≤ from
  starts = omega (arith, stands_in.starts, start_is)

  pub ends : from - start < length (all_entries (get_or nodes i []))
  ends = omega (arith, stands_in.starts, stands_in.ends, start_is, ap length (at_node nodes i))

  module _ (node part : List (List A)) (is : node ≡ get_or nodes i []) (cut : all_entries part ≡ slice_range (all_entries node) (from - start) (to - start)) where
    range : all_entries part ≡ slice_range (get_or (in_nodes nodes) i []) (from - length (all_entries (take i (in_nodes nodes)))) (to - length (all_entries (take i (in_nodes nodes))))
    range =
        cut ∙ ap (λ es. slice_range es (from - start) (to - start)) (ap all_entries is ∙ sym (at_node nodes i))
        ∙ ap (λ n. slice_range (get_or (in_nodes nodes) i []) (from - n) (to - n)) start_is

    pub part_has : 0 < length part
    part_has = has_leaves part (part_some (in_nodes nodes) i from to (all_entries part) stands_in some range)

    pub part_ends : from + length (all_entries part) ≤ to
    part_ends = part_within (in_nodes nodes) i from to (all_entries part) stands_in some range

    pub part_first : slice_range (entries_in nodes) from to ≡ all_entries part ++ slice_range (entries_in nodes) (from + length (all_entries part)) to
    part_first = rw (← all_in_nodes nodes) (part_begins (in_nodes nodes) i from to (all_entries part) stands_in some range found)

-- a part of a node is the leaves of a table
pub part_list : {K C : Type 0} (cmp : K → K → Ordering) (valid : C → Type 0) (node part : List (List (K × C))) (from to : ℕ) → IsLeafList cmp valid node → AllByRecursion (λ leaf. IsLeaf leaf) part → all_entries part ≡ slice_range (all_entries node) from to → IsLeafList cmp valid part
part_list cmp valid node part from to leaf_list sizes is = record { sizes = sizes; table = rw is (slice_table cmp valid (all_entries node) from to leaf_list.table) }

-- A node that is put back into its row, with one after it, if anything no longer fitted; and joins into one node.
use Rattle.std.proofs.Common.{◌≡◌, ℕ, zero, suc, ◌+◌, ◌^◌, ◌<◌, ◌≤◌, List, [], ◌∷◌, ◌++◌, length, get_or, set, slice_get, take, drop, Option, Some, None, unwrap_or, option_map, Ordering, refl, sym, ap, ◌∙◌, arith, append-nil, append_assoc, Result, Ok, Err}
use Rattle.std.specs.List.{AllByRecursion}
use Rattle.std.specs.Option.{option_to_list}
use Rattle.std.proofs.lemmas.List.{length-append}
use Rattle.pn_join.specs.NodeLeaves.{in_nodes, entries_in, AreNodes}
use Rattle.pn_join.specs.Leaves.{all_entries, IsLeaf, IsLeafList}
use Rattle.pn_join.specs.Nodes.{both, AreParts}
use Rattle.pn_join.specs.Rows.{inserted_at, IsJoinedIn}
use Rattle.pn_join.specs.Tables.{IsTable}
use Rattle.pn_join.proofs.NodeFacts.{all_in_nodes, at_node, node_there, length-in_nodes}
use Rattle.pn_join.proofs.NodeGrowth.{all_append, IsTable-back}
use Rattle.pn_join.proofs.ListFacts.{each_append, each_prefix, each_back, each_set}
use Rattle.pn_join.proofs.PutAtFacts.{IsTable-inside, joined-inside, may_put-inside, put_at-grows}
use Rattle.pn_join.proofs.RowFacts.{all_inserted, in_nodes-inserted, all_around, all_with, can_recount, now_counted, changes, in_nodes-set, reindices, reindices_between}
use Rattle.pn_join.proofs.SliceFacts.{IsTable-prefix}
use Rattle.pn_join.specs.Counts.{AreCounts, AreRecounted, CanRecount}
use Rattle.pn_join.specs.PutAt.{from_start, place, put_at, IsAmong, IsJoinedAt, MayPutAt}
use Rattle.pn_join.specs.PutInLeaves.{ChangesOneLeaf}
use Rattle.pn_join.specs.declared.table.counts.Sizes.{Sizes}

-- as many leaves as entries at most
pub leaves_few : {A : Type 0} (leaves : List (List A)) → AllByRecursion (λ leaf. IsLeaf leaf) leaves → length leaves ≤ length (all_entries leaves)
leaves_few [] h = omega arith
leaves_few (l ∷ ls) h = omega (arith, h.0.0, leaves_few ls h.1, length-append l (all_entries ls))

module _ {A : Type 0} where
  none_after : (lists : List (List A)) (j : ℕ) → inserted_at j [] lists ≡ lists
  none_after [] zero = refl
  none_after [] (suc j) = refl
  none_after (l ∷ ls) zero = refl
  none_after (l ∷ ls) (suc j) = ap (λ rest. l ∷ rest) (none_after ls j)

  -- all items, with one list put back and one after it
  pub all_put_back : (lists : List (List A)) (i : ℕ) (front : List A) (back : Option (List A)) → i < length lists → all_entries (inserted_at (i + 1) (option_to_list back) (set lists i front)) ≡ all_entries (take i lists) ++ ((front ++ unwrap_or back []) ++ all_entries (drop (suc i) lists))
  all_put_back lists i front None lt =
      ap all_entries (none_after (set lists i front) (i + 1)) ∙ all_with lists i front lt
      ∙ ap (λ es. all_entries (take i lists) ++ (es ++ all_entries (drop (suc i) lists))) (sym (append-nil front))
  all_put_back lists i front (Some back) lt =
      let next : i + 1 ≡ suc i = omega arith in
      all_inserted lists i (i + 1) front back lt next ∙ all_with lists i (front ++ back) lt

module _ {A : Type 0} where
  pub whole_back : (front : List (List A)) (back : Option (List (List A))) → all_entries front ++ unwrap_or (option_map all_entries back) [] ≡ all_entries (both front back)
  whole_back front None = sym (all_append front [])
  whole_back front (Some back) = sym (all_append front back)

  -- the entries of a row, with a node put back and one after it
  pub entries_put_back : (nodes : List (List (List A))) (i : ℕ) (front : List (List A)) (back : Option (List (List A))) → i < length nodes → all_entries (in_nodes (inserted_at (i + 1) (option_to_list back) (set nodes i front))) ≡ all_entries (take i (in_nodes nodes)) ++ (all_entries (both front back) ++ all_entries (drop (suc i) (in_nodes nodes)))
  entries_put_back nodes i front back lt =
      ap all_entries (in_nodes-inserted nodes i front back)
      ∙ all_put_back (in_nodes nodes) i (all_entries front) (option_map all_entries back) (omega (arith, lt, length-in_nodes nodes))
      ∙ ap (λ es. all_entries (take i (in_nodes nodes)) ++ (es ++ all_entries (drop (suc i) (in_nodes nodes)))) (whole_back front back)

  -- the entries of a row round one node
  pub entries_around : (nodes : List (List (List A))) (i : ℕ) → i < length nodes → entries_in nodes ≡ all_entries (take i (in_nodes nodes)) ++ (all_entries (get_or nodes i []) ++ all_entries (drop (suc i) (in_nodes nodes)))
  entries_around nodes i lt =
      sym (all_in_nodes nodes) ∙ all_around (in_nodes nodes) i (omega (arith, lt, length-in_nodes nodes))
      ∙ ap (λ es. all_entries (take i (in_nodes nodes)) ++ (es ++ all_entries (drop (suc i) (in_nodes nodes)))) (at_node nodes i)

  pub entries_in-put_back : (nodes : List (List (List A))) (i : ℕ) (front : List (List A)) (back : Option (List (List A))) → i < length nodes → entries_in (inserted_at (i + 1) (option_to_list back) (set nodes i front)) ≡ all_entries (take i (in_nodes nodes)) ++ (all_entries (both front back) ++ all_entries (drop (suc i) (in_nodes nodes)))
  entries_in-put_back nodes i front back lt = sym (all_in_nodes (inserted_at (i + 1) (option_to_list back) (set nodes i front))) ∙ entries_put_back nodes i front back lt

  each_inserted : (P : List (List A) → Type 0) (nodes : List (List (List A))) (j : ℕ) (more : List (List (List A))) → AllByRecursion P nodes → AllByRecursion P more → AllByRecursion P (inserted_at j more nodes)
  each_inserted P [] zero more h g = each_append P more [] g tt
  each_inserted P [] (suc j) more h g = each_append P more [] g tt
  each_inserted P (n ∷ ns) zero more h g = each_append P more (n ∷ ns) g h
  each_inserted P (n ∷ ns) (suc j) more h g = (h.0, each_inserted P ns j more h.1 g)

  more_has : (front : List (List A)) (back : Option (List (List A))) → AreParts front back → AllByRecursion (λ node. 0 < length node) (option_to_list back)
  more_has front None parts = tt
  more_has front (Some back) parts = (parts.more, tt)

  -- each node of the row has leaves
  pub put_back_some : (nodes : List (List (List A))) (i : ℕ) (front : List (List A)) (back : Option (List (List A))) → AllByRecursion (λ node. 0 < length node) nodes → AreParts front back → AllByRecursion (λ node. 0 < length node) (inserted_at (i + 1) (option_to_list back) (set nodes i front))
  put_back_some nodes i front back some parts =
      each_inserted (λ node. 0 < length node) (set nodes i front) (i + 1) (option_to_list back) (each_set (λ node. 0 < length node) nodes i front some parts.some) (more_has front back parts)

  -- each leaf has entries, and not too many
  sizes_around : (nodes : List (List (List A))) (i : ℕ) (new : List (List A)) → i < length nodes → AllByRecursion (λ leaf. IsLeaf leaf) (all_entries nodes) → AllByRecursion (λ leaf. IsLeaf leaf) new → AllByRecursion (λ leaf. IsLeaf leaf) (all_entries (take i nodes) ++ (new ++ all_entries (drop (suc i) nodes)))
  sizes_around nodes i new lt sizes is =
      let had = rw (all_around nodes i lt) at sizes in
      each_append (λ leaf. IsLeaf leaf) (all_entries (take i nodes)) (new ++ all_entries (drop (suc i) nodes))
      (each_prefix (λ leaf. IsLeaf leaf) (all_entries (take i nodes)) (get_or nodes i [] ++ all_entries (drop (suc i) nodes)) had)
      (each_append (λ leaf. IsLeaf leaf) new (all_entries (drop (suc i) nodes)) is
      (each_back (λ leaf. IsLeaf leaf) (get_or nodes i []) (all_entries (drop (suc i) nodes)) (each_back (λ leaf. IsLeaf leaf) (all_entries (take i nodes)) (get_or nodes i [] ++ all_entries (drop (suc i) nodes)) had)))

  pub put_back_sizes : (nodes : List (List (List A))) (i : ℕ) (front : List (List A)) (back : Option (List (List A))) → i < length nodes → AllByRecursion (λ leaf. IsLeaf leaf) (all_entries nodes) → AreParts front back → AllByRecursion (λ leaf. IsLeaf leaf) (all_entries (inserted_at (i + 1) (option_to_list back) (set nodes i front)))
  put_back_sizes nodes i front back lt sizes parts = rw (all_put_back nodes i front back lt) (sizes_around nodes i (both front back) lt sizes parts.sizes)

  pub set_sizes : (nodes : List (List (List A))) (i : ℕ) (new : List (List A)) → i < length nodes → AllByRecursion (λ leaf. IsLeaf leaf) (all_entries nodes) → AllByRecursion (λ leaf. IsLeaf leaf) new → AllByRecursion (λ leaf. IsLeaf leaf) (all_entries (set nodes i new))
  set_sizes nodes i new lt sizes is = rw (all_with nodes i new lt) (sizes_around nodes i new lt sizes is)

-- a row with a node put back, and one after it
pub put_back_row : {K C : Type 0} (cmp : K → K → Ordering) (valid : C → Type 0) (nodes : List (List (List (K × C)))) (i : ℕ) (front : List (List (K × C))) (back : Option (List (List (K × C)))) → i < length nodes → AreNodes cmp valid nodes → AreParts front back → IsTable cmp valid (entries_in (inserted_at (i + 1) (option_to_list back) (set nodes i front))) → AreNodes cmp valid (inserted_at (i + 1) (option_to_list back) (set nodes i front))
put_back_row cmp valid nodes i front back lt are parts table = record {
  some = put_back_some nodes i front back are.some parts;
  leaf_list = record { sizes = put_back_sizes nodes i front back lt are.leaf_list.sizes parts; table = table };
}

-- the leaves of one node of a row
module _ {K C : Type 0} (cmp : K → K → Ordering) (valid : C → Type 0) (nodes : List (List (List (K × C)))) (are : AreNodes cmp valid nodes) where
  pub node_list : (i : ℕ) → i < length nodes → IsLeafList cmp valid (get_or nodes i [])
  node_list i lt = record {
    sizes = each_prefix (λ leaf. IsLeaf leaf) (get_or nodes i []) (all_entries (drop (suc i) nodes))
        (each_back (λ leaf. IsLeaf leaf) (all_entries (take i nodes)) (get_or nodes i [] ++ all_entries (drop (suc i) nodes)) (rw (all_around nodes i lt) at are.leaf_list.sizes));
    table = IsTable-inside cmp valid (all_entries (take i (in_nodes nodes))) (all_entries (get_or nodes i [])) (all_entries (drop (suc i) (in_nodes nodes))) (rw (entries_around nodes i lt) at are.leaf_list.table);
  }

  there : (ns : List (List (List (K × C)))) (i : ℕ) (node : List (List (K × C))) → Some node ≡ slice_get ns i → i < length ns
  there [] i node is = cc
  there (n ∷ ns) zero node is = omega arith
  there (n ∷ ns) (suc i) node is = omega (arith, there ns i node is)

  pub there_list : (i : ℕ) (node : List (List (K × C))) → Some node ≡ slice_get nodes i → IsLeafList cmp valid node
  there_list i node is = rw (sym (node_there nodes i node is)) (node_list i (there nodes i node is))

-- the leaves of a node and of the one after it, where both are those of a table
module _ {K C : Type 0} (cmp : K → K → Ordering) (valid : C → Type 0) where
  pub parts_lists : (front : List (List (K × C))) (back : Option (List (List (K × C)))) → AreParts front back → IsTable cmp valid (all_entries (both front back)) → IsLeafList cmp valid front × IsLeafList cmp valid (unwrap_or back [])
  parts_lists front back parts table =
      let more = unwrap_or back [] in
      let parted = rw (all_append front more) at table in (
        record { sizes = each_prefix (λ leaf. IsLeaf leaf) front more parts.sizes; table = IsTable-prefix cmp valid (all_entries front) (all_entries more) parted },
        record { sizes = each_back (λ leaf. IsLeaf leaf) front more parts.sizes; table = IsTable-back cmp valid (all_entries front) (all_entries more) parted },
      )

length_between : {A : Type 0} (xs ys zs : List A) → length ys ≤ length (xs ++ (ys ++ zs))
length_between xs ys zs = omega (arith, length-append xs (ys ++ zs), length-append ys zs)

module _ {A : Type 0} where
  -- a change of one leaf of a node is one of the row
  pub one_put_back : (nodes : List (List (List A))) (i : ℕ) (front : List (List A)) (back : Option (List (List A))) → i < length nodes → 0 < length (get_or nodes i []) → ChangesOneLeaf (get_or nodes i []) (both front back) → ChangesOneLeaf (all_entries nodes) (all_entries (inserted_at (i + 1) (option_to_list back) (set nodes i front)))
  one_put_back nodes i front back lt some one =
      let old = get_or nodes i [] in
      let before = all_entries (take i nodes) in
      let after = all_entries (drop (suc i) nodes) in
      let around = all_around nodes i lt in
      let long : 0 < length (all_entries nodes) = omega (arith, ap length around, some, length_between before old after) in
      changes (all_entries nodes) (all_entries (inserted_at (i + 1) (option_to_list back) (set nodes i front))) long
      (rw (around, all_put_back nodes i front back lt) (reindices_between before old (both front back) after (reindices old (both front back) some one)))

module _ {K C : Type 0} (cmp : K → K → Ordering) (valid : C → Type 0) (nodes : List (List (List (K × C)))) (i : ℕ) (index : Result ℕ ℕ) (node_within : i < length nodes) (starts : length (all_entries (take i (in_nodes nodes))) ≤ place index) (among : IsAmong (length (get_or (in_nodes nodes) i [])) (from_start (length (all_entries (take i (in_nodes nodes)))) index)) where
  among_node : IsAmong (length (all_entries (get_or nodes i []))) (from_start (length (all_entries (take i (in_nodes nodes)))) index)
  among_node = rw (ap length (sym (at_node nodes i))) among

  -- the key may be put into the node
  pub node_may : (key : K) → MayPutAt cmp valid index key (entries_in nodes) → MayPutAt cmp valid (from_start (length (all_entries (take i (in_nodes nodes)))) index) key (all_entries (get_or nodes i []))
  node_may key may =
      may_put-inside cmp valid (all_entries (take i (in_nodes nodes))) (all_entries (get_or nodes i [])) (all_entries (drop (suc i) (in_nodes nodes))) index key starts among_node (rw (entries_around nodes i node_within) at may)

  module _ {M : Type 0} (meaning : C → M) (joined : M → M → M) (key : K) (content : C) (are : AreNodes cmp valid nodes) (may : MayPutAt cmp valid index key (entries_in nodes)) (some : 0 < length (get_or nodes i [])) (back : Option (List (List (K × C)))) (mid : List (List (List (K × C)))) (is : IsJoinedIn meaning joined valid i (from_start (length (all_entries (take i (in_nodes nodes)))) index) key content back nodes mid) where
    after_is : inserted_at (i + 1) (option_to_list back) mid ≡ inserted_at (i + 1) (option_to_list back) (set nodes i is.front)
    after_is = ap (inserted_at (i + 1) (option_to_list back)) is.replaced

    pub joined_row : IsJoinedAt meaning joined valid index key content (entries_in nodes) (entries_in (inserted_at (i + 1) (option_to_list back) mid))
    joined_row =
        rw (after_is, entries_in-put_back nodes i is.front back node_within, entries_around nodes i node_within)
        (joined-inside meaning joined valid index key content (all_entries (take i (in_nodes nodes))) (all_entries (get_or nodes i [])) (all_entries (both is.front back)) (all_entries (drop (suc i) (in_nodes nodes))) starts among_node is.put)

    -- the entries of both parts are a table
    pub parts_table : IsTable cmp valid (all_entries (both is.front back))
    parts_table = rw is.put.put ((node_may key may).table is.put.value is.put.is_valid)

    pub one_in_row : ChangesOneLeaf (all_entries nodes) (all_entries (inserted_at (i + 1) (option_to_list back) mid))
    one_in_row = rw after_is (one_put_back nodes i is.front back node_within some is.one)

    pub now_table : IsTable cmp valid (entries_in (inserted_at (i + 1) (option_to_list back) mid))
    now_table = rw joined_row.put (may.table joined_row.value joined_row.is_valid)

    pub now_row : AreNodes cmp valid (inserted_at (i + 1) (option_to_list back) mid)
    now_row = rw after_is (put_back_row cmp valid nodes i is.front back node_within are is.parts (rw (ap entries_in after_is) at now_table))

    grown : length (entries_in (inserted_at (i + 1) (option_to_list back) mid)) ≤ length (entries_in nodes) + 1
    grown = omega (arith, ap length joined_row.put, (put_at-grows index key joined_row.value (entries_in nodes)).1)

    module _ (room : length (entries_in nodes) + 1 < 2 ^ 64) (ends : List Sizes) (counted : AreCounts nodes ends) where
      fits : length (entries_in (inserted_at (i + 1) (option_to_list back) mid)) < 2 ^ 64
      fits = omega (arith, grown, room)

      few : length (all_entries (inserted_at (i + 1) (option_to_list back) mid)) < 2 ^ 64
      few = omega (arith, fits, leaves_few (all_entries (inserted_at (i + 1) (option_to_list back) mid)) now_row.leaf_list.sizes)

      entries_fit : length (all_entries (set (in_nodes nodes) i (all_entries (both is.front back)))) < 2 ^ 64
      entries_fit =
          let within : i < length (in_nodes nodes) = omega (arith, node_within, length-in_nodes nodes) in
          omega (arith, fits, ap (λ ns. length (entries_in ns)) after_is, ap length (entries_in-put_back nodes i is.front back node_within), ap length (all_with (in_nodes nodes) i (all_entries (both is.front back)) within))

      leaves_fit : length (all_entries (set nodes i (both is.front back))) < 2 ^ 64
      leaves_fit = omega (arith, few, ap (λ ns. length (all_entries ns)) after_is, ap length (all_put_back nodes i is.front back node_within), ap length (all_with nodes i (both is.front back) node_within))

      pub may_count : CanRecount i is.front back ends
      may_count = can_recount nodes ends counted i node_within is.front back entries_fit leaves_fit

      pub row_counted : (new_ends : List Sizes) → AreRecounted i is.front back ends new_ends → AreCounts (inserted_at (i + 1) (option_to_list back) mid) new_ends
      row_counted new_ends new =
          rw after_is (now_counted nodes ends counted i node_within is.front back new_ends new
          (omega (arith, fits, ap (λ ns. length (entries_in ns)) after_is, ap length (all_in_nodes (inserted_at (i + 1) (option_to_list back) (set nodes i is.front)))))
          (omega (arith, few, ap (λ ns. length (all_entries ns)) after_is)))

-- The leaves of a table, divided into nodes.
use Rattle.std.specs.Prelude.{◌<◌, List, map, length}
use Rattle.std.specs.declared.cmp.Ordering.{Ordering}
use Rattle.std.specs.List.{AllByRecursion}
use Rattle.pn_join.specs.Leaves.{all_entries, IsLeafList}

-- the entries of each node
abbrev pub in_nodes : {A : Type 0} → List (List (List A)) → List (List A)
in_nodes nodes = map all_entries nodes

-- the entries of all nodes, one leaf after another
abbrev pub entries_in : {A : Type 0} → List (List (List A)) → List A
entries_in nodes = all_entries (all_entries nodes)

-- the leaves of a table, in nodes of at least one leaf each
pub record AreNodes {K C : Type 0} (cmp : K → K → Ordering) (valid : C → Type 0) (nodes : List (List (List (K × C)))) : Type 0 where
  pub some : AllByRecursion (λ node. 0 < length node) nodes
  pub leaf_list : IsLeafList cmp valid (all_entries nodes)

-- Nodes of a table, shared or not, and the leaves in them.
use Rattle.std.specs.Prelude.{◌<◌, List, [], ◌∷◌, ◌++◌, Option, IfSome, unwrap_or, length, map}
use Rattle.std.specs.List.{AllByRecursion}
use Rattle.pn_join.specs.Leaves.{IsLeaf}
use Rattle.pn_join.specs.declared.table.node.NodeRef.{NodeRef}
use Rattle.pn_join.specs.declared.table.node.NodeRef.TheVariants.{Own, Shared}

-- the node, shared or not
abbrev pub node_of : {T : Type 0} → NodeRef T → T
node_of (Own node) = node
node_of (Shared node) = node.value

-- what each child has
abbrev pub each_child : {T A : Type 0} → (T → A) → List (NodeRef T) → List A
each_child leaves children = map (λ child. leaves (node_of child)) children

-- the leaf of these entries; without entries there is none
abbrev pub leaf_of : {A : Type 0} → List A → List (List A)
leaf_of [] = []
leaf_of (entry ∷ entries) = (entry ∷ entries) ∷ []

-- the leaves of a node, and of one after it, if there is one
abbrev pub both : {A : Type 0} → List (List A) → Option (List (List A)) → List (List A)
both front back = front ++ unwrap_or back []

-- a node has leaves, and so has the one after it, if there is one
pub record AreParts {A : Type 0} (front : List (List A)) (back : Option (List (List A))) : Type 0 where
  pub sizes : AllByRecursion (λ leaf. IsLeaf leaf) (both front back)
  pub some : 0 < length front
  pub more : IfSome back (λ leaves. 0 < length leaves)

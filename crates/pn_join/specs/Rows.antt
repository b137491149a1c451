-- Rows of nodes, and what a change of one of them makes of the row.
use Rattle.std.specs.Prelude.{◌≡◌, ℕ, ◌+◌, ◌<◌, ◌≤◌, List, [], ◌∷◌, ◌++◌, Option, Result, length, get_or, take, drop, set}
use Rattle.std.specs.List.{AllByRecursion}
use Rattle.std.specs.Option.{option_to_list}
use Rattle.pn_join.specs.Counts.{AreRecounted, CanRecount}
use Rattle.pn_join.specs.Leaves.{all_entries}
use Rattle.pn_join.specs.Nodes.{both, AreParts}
use Rattle.pn_join.specs.Openings.{IsOpened}
use Rattle.pn_join.specs.PutAt.{IsJoinedAt}
use Rattle.pn_join.specs.PutInLeaves.{ChangesOneLeaf}
use Rattle.pn_join.specs.declared.table.counts.Sizes.{Sizes}
use Rattle.pn_join.specs.declared.table.edit.Edit.{Edit}
use Rattle.pn_join.specs.declared.table.row.opening.Taken.{Taken}

-- the nodes with others before the one at an index
abbrev pub inserted_at : {A : Type 0} → ℕ → List A → List A → List A
inserted_at index others nodes = take index nodes ++ (others ++ drop index nodes)

-- what each node has, with what the taken ones have, those taken last put back first
abbrev pub filled : {O A : Type 0} → (O → A) → List (Taken O) → List A → List A
filled content [] nodes = nodes
filled content (one ∷ taken) nodes = set (filled content taken nodes) one.index (content one.node)

-- the taken nodes go down, each below an index
abbrev pub GoDown : {O : Type 0} → ℕ → List (Taken O) → Type 0
GoDown index [] = Unit {0}
GoDown index (one ∷ taken) = (one.index < index) × GoDown one.index taken

-- no taken node loses entries
abbrev pub NoneShrinks : {K C O : Type 0} → (O → List (List (K × C))) → (O → List (K × C)) → List (Taken O) → Type 0
NoneShrinks was becomes taken = AllByRecursion (λ one. length (all_entries (was one.node)) ≤ length (becomes one.node)) taken

-- a content is joined into one node, of which the back no longer fits, and all others stay
pub record IsJoinedIn {K C M : Type 0} (meaning : C → M) (joined : M → M → M) (valid : C → Type 0) (node : ℕ) (index : Result ℕ ℕ) (key : K)
    (content : C) (back : Option (List (List (K × C)))) (old new : List (List (List (K × C)))) : Type 0 where
  pub front : List (List (K × C))
  pub replaced : new ≡ set old node front
  pub put : IsJoinedAt meaning joined valid index key content (all_entries (get_or old node [])) (all_entries (both front back))
  pub one : ChangesOneLeaf (get_or old node []) (both front back)
  pub parts : AreParts front back

-- the nodes as they were, where the taken ones were taken out last first
pub record AreTaken {K C O : Type 0} (was : O → List (List (K × C))) (becomes : O → List (K × C)) (old new : List (List (List (K × C))))
    (taken : List (Taken O)) : Type 0 where
  pub same : filled was taken new ≡ old
  pub down : GoDown (length new) taken
  pub grow : NoneShrinks was becomes taken

-- a node is taken out and open for the last edits
pub record IsTaken {K C O : Type 0} (was : O → List (List (K × C))) (becomes : O → List (K × C)) (index start : ℕ) (edits left : List (Edit K C))
    (nodes new_nodes : List (List (List (K × C)))) (taken new_taken : List (Taken O)) : Type 0 where
  pub one : Taken O
  pub added : new_taken ≡ taken ++ one ∷ []
  pub at : one.index ≡ index
  pub hole : List (List (K × C))
  pub replaced : new_nodes ≡ set nodes index hole
  pub opened : IsOpened was becomes start (get_or nodes index []) edits left one.node

-- no node is taken out, and each has the same leaves
pub record StayTaken {A O : Type 0} (nodes new_nodes : List A) (taken new_taken : List (Taken O)) : Type 0 where
  pub nodes_stay : new_nodes ≡ nodes
  pub taken_stay : new_taken ≡ taken

-- however these entries are divided, the node that has them and the one after it may be counted
abbrev pub MayFinish : {A : Type 0} → ℕ → List A → List Sizes → Type 0
MayFinish index entries ends = (front : List (List _)) (back : Option (List (List _))) → all_entries (both front back) ≡ entries
    → AreParts front back → CanRecount index front back ends

-- a node has these entries now, with one after it if it has no room for all
pub record IsFinished {A : Type 0} (index : ℕ) (entries : List A) (nodes new_nodes : List (List (List A))) (ends new_ends : List Sizes) : Type 0 where
  pub front : List (List A)
  pub back : Option (List (List A))
  pub put : all_entries (both front back) ≡ entries
  pub parts : AreParts front back
  pub inserted : new_nodes ≡ inserted_at (index + 1) (option_to_list back) (set nodes index front)
  pub counts : AreRecounted index front back ends new_ends

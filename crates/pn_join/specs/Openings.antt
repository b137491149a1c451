-- What opening a node for edits gives.
use Rattle.std.specs.Prelude.{◌≡◌, ℕ, ◌≤◌, List, ◌++◌, reverse}
use Rattle.std.specs.List.{AllByRecursion}
use Rattle.pn_join.specs.declared.table.edit.Edit.{Edit}
use Rattle.pn_join.specs.declared.table.node.Opening.{Opening}
use Rattle.pn_join.specs.declared.table.node.Opening.TheVariants.{Open, Full, NoMemory}
use Rattle.pn_join.specs.Edits.{put_in_turn, StopsBefore}
use Rattle.pn_join.specs.Leaves.{all_entries}
use Rattle.pn_join.specs.PutAt.{place}

-- a node is open for the last edits, down to the index of its first entry
pub record IsOpened {K C O : Type 0} (was : O → List (List (K × C))) (becomes : O → List (K × C)) (start : ℕ) (node : List (List (K × C)))
    (edits left : List (Edit K C)) (opened : O) : Type 0 where
  pub mine : List (Edit K C)
  pub parted : edits ≡ left ++ reverse mine
  pub from : AllByRecursion (λ edit. start ≤ place edit.index) mine
  pub stops : StopsBefore start left
  pub had : was opened ≡ node
  pub has : becomes opened ≡ put_in_turn start (all_entries node) mine

-- the last edits, down to an index, are put among entries of which the first has that index
pub record AreOpened {K C : Type 0} (start : ℕ) (entries : List (K × C)) (edits left : List (Edit K C)) (now : List (K × C)) : Type 0 where
  pub mine : List (Edit K C)
  pub parted : edits ≡ left ++ reverse mine
  pub from : AllByRecursion (λ edit. start ≤ place edit.index) mine
  pub stops : StopsBefore start left
  pub has : now ≡ put_in_turn start entries mine

-- the node is open for the last edits, or has the same leaves
abbrev pub IsOpening : {K C T O : Type 0} → (T → List (List (K × C))) → (O → List (List (K × C))) → (O → List (K × C)) → ℕ → List (List (K × C))
    → List (Edit K C) → List (Edit K C) → Opening T O → Type 0
IsOpening leaves was becomes start node edits left (Open opened) = IsOpened was becomes start node edits left opened
IsOpening leaves was becomes start node edits left (Full same) = leaves same ≡ node
IsOpening leaves was becomes start node edits left (NoMemory same) = leaves same ≡ node

-- the node is open for these edits, or has the same leaves
abbrev pub IsOpeningFor : {K C T O : Type 0} → (T → List (List (K × C))) → (O → List (List (K × C))) → (O → List (K × C)) → ℕ → List (List (K × C))
    → List (Edit K C) → Opening T O → Type 0
IsOpeningFor leaves was becomes start node edits (Open opened) = (was opened ≡ node) × (becomes opened ≡ put_in_turn start (all_entries node) edits)
IsOpeningFor leaves was becomes start node edits (Full same) = leaves same ≡ node
IsOpeningFor leaves was becomes start node edits (NoMemory same) = leaves same ≡ node

-- What joining entries changes in a table.
use Rattle.std.specs.Prelude.{◌≡◌, ◌≢◌, List, [], ◌∷◌, Option, None, Some, option_map}
use Rattle.std.specs.declared.cmp.Ordering.{Ordering}
use Rattle.std.specs.List.{AllByRecursion, AllZip, filter_map}
use Rattle.std.specs.FinMap.{find, put}
use Rattle.pn_join.specs.declared.table.change.TableChange.{TableChange}
use Rattle.pn_join.specs.Tables.{optional_joined}

-- the change of an entry: its key, the content before, and one that means the join of both and not the same as before
pub record IsChange {K C M : Type 0} (cmp : K → K → Ordering) (meaning : C → M) (joined : M → M → M) (valid : C → Type 0) (old : List (K × C)) (entry : K × C) (change : TableChange K C) : Type 0 where
  pub key : change.key ≡ entry.0
  pub before : change.before ≡ find cmp entry.0 old
  pub after : Some (meaning change.after) ≡ optional_joined joined (option_map meaning (find cmp entry.0 old)) (Some (meaning entry.1))
  pub differs : Some (meaning change.after) ≢ option_map meaning change.before
  pub is_valid : valid change.after

-- the change of an entry, or none if the content at its key means the same afterwards
abbrev pub Changes : {K C M : Type 0} → (K → K → Ordering) → (C → M) → (M → M → M) → (C → Type 0) → List (K × C) → K × C → Option (TableChange K C) → Type 0
Changes cmp meaning joined valid old entry (Some change) = IsChange cmp meaning joined valid old entry change
Changes cmp meaning joined valid old entry None = optional_joined joined (option_map meaning (find cmp entry.0 old)) (Some (meaning entry.1)) ≡ option_map meaning (find cmp entry.0 old)

-- the elements that are present
abbrev pub those_there : {A : Type 0} → List (Option A) → List A
those_there elements = filter_map (λ element. element) elements

-- the changes of another table's entries, in their order; entries that change nothing are left out
pub record AreChanges {K C M : Type 0} (cmp : K → K → Ordering) (meaning : C → M) (joined : M → M → M) (valid : C → Type 0) (old others : List (K × C)) (changes : List (TableChange K C)) : Type 0 where
  pub made : List (Option (TableChange K C))
  pub each : AllZip (Changes cmp meaning joined valid old) others made
  pub are : changes ≡ those_there made

-- the new contents are valid
abbrev pub AreValid : {K C : Type 0} → (C → Type 0) → List (TableChange K C) → Type 0
AreValid valid changes = AllByRecursion (λ change. valid change.after) changes

-- the entries after all new contents are put at their keys, the last first
abbrev pub puts : {K C : Type 0} → (K → K → Ordering) → List (K × C) → List (TableChange K C) → List (K × C)
puts cmp entries [] = entries
puts cmp entries (change ∷ changes) = put cmp change.key change.after (puts cmp entries changes)

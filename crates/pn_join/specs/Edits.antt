-- Edits: contents put among entries, each at the index of its key among the entries as they were.
use Rattle.std.specs.Prelude.{◌≡◌, ℕ, ◌<◌, ◌≤◌, List, [], ◌∷◌, Result, IfSome, IsTrue, map}
use Rattle.std.specs.declared.cmp.Ordering.{Ordering}
use Rattle.std.specs.List.{AllByRecursion, fold}
use Rattle.std.specs.FinMap.{is_sorted}
use Rattle.pn_join.specs.declared.table.change.TableChange.{TableChange}
use Rattle.pn_join.specs.declared.table.edit.Edit.{Edit}
use Rattle.pn_join.specs.Indices.{index_of}
use Rattle.pn_join.specs.Leaves.{last_of}
use Rattle.pn_join.specs.PutAt.{place, from_start, put_at, IsAmong}

-- the changes of the edits
abbrev pub changes_in : {K C : Type 0} → List (Edit K C) → List (TableChange K C)
changes_in edits = map (λ edit. edit.change) edits

-- the index, the key and the new content of an edit
abbrev pub put_of : {K C : Type 0} → Edit K C → Result ℕ ℕ × (K × C)
put_of edit = (edit.index, (edit.change.key, edit.change.after))

-- what all edits put, apart from the contents before
abbrev pub puts_in : {K C : Type 0} → List (Edit K C) → List (Result ℕ ℕ × (K × C))
puts_in edits = map put_of edits

-- the entries after an edit, where the first of them has the index `start`
abbrev pub put_edit : {K C : Type 0} → ℕ → List (K × C) → Edit K C → List (K × C)
put_edit start entries edit = put_at (from_start start edit.index) edit.change.key edit.change.after entries

-- the entries after edits, one after another
abbrev pub put_in_turn : {K C : Type 0} → ℕ → List (K × C) → List (Edit K C) → List (K × C)
put_in_turn start entries edits = fold (put_edit start) entries edits

-- each edit's index is that of its key
abbrev pub AreIndexed : {K C : Type 0} → (K → K → Ordering) → List (K × C) → List (Edit K C) → Type 0
AreIndexed cmp entries edits = AllByRecursion (λ edit. edit.index ≡ index_of cmp edit.change.key entries) edits

-- the keys strictly rise
abbrev pub RiseByKey : {K C : Type 0} → (K → K → Ordering) → List (Edit K C) → Type 0
RiseByKey cmp edits = IsTrue (is_sorted cmp (map (λ edit. (edit.change.key, edit.change.after)) edits))

-- the indices do not fall
abbrev pub InOrder : {K C : Type 0} → List (Edit K C) → Type 0
InOrder [] = Unit {0}
InOrder (edit ∷ edits) = AllByRecursion (λ later. place edit.index ≤ place later.index) edits × InOrder edits

-- the indices do not fall, and lie among so many entries
pub record AreEditsWithin {K C : Type 0} (count : ℕ) (edits : List (Edit K C)) : Type 0 where
  pub order : InOrder edits
  pub among : AllByRecursion (λ edit. IsAmong count edit.index) edits

-- the last of the edits, if any, comes before this index
abbrev pub StopsBefore : {K C : Type 0} → ℕ → List (Edit K C) → Type 0
StopsBefore start edits = IfSome (last_of edits) (λ edit. place edit.index < start)

-- each edit's index, counted from a start, lies among so many entries
abbrev pub AreFor : {K C : Type 0} → ℕ → ℕ → List (Edit K C) → Type 0
AreFor start count edits = AllByRecursion (λ edit. IsAmong count (from_start start edit.index)) edits

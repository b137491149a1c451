-- Contents put at an index among entries.
use Rattle.std.specs.Prelude.{◌≡◌, ℕ, ◌+◌, ◌-◌, ◌<◌, ◌≤◌, List, [], ◌∷◌, ◌++◌, Option, Some, None, option_map, Result, Ok, Err, length, slice_get, get_or, insert, set}
use Rattle.std.specs.declared.cmp.Ordering.{Ordering}
use Rattle.pn_join.specs.Tables.{IsTable, optional_joined}

-- the entries before the index of a key, whether it is there or not
abbrev pub place : Result ℕ ℕ → ℕ
place (Ok index) = index
place (Err index) = index

-- an index counted from a later start
abbrev pub from_start : ℕ → Result ℕ ℕ → Result ℕ ℕ
from_start start (Ok index) = Ok (index - start)
from_start start (Err index) = Err (index - start)

-- an index counted from an earlier start
abbrev pub moved_by : ℕ → Result ℕ ℕ → Result ℕ ℕ
moved_by start (Ok index) = Ok (start + index)
moved_by start (Err index) = Err (start + index)

-- an index lies among so many entries, or at their end if it is that of a new one
abbrev pub IsAmong : ℕ → Result ℕ ℕ → Type 0
IsAmong count (Ok index) = index < count
IsAmong count (Err index) = index ≤ count

-- the entries with a content in place of that at the index, or with a new entry there
abbrev pub put_at : {K C : Type 0} → Result ℕ ℕ → K → C → List (K × C) → List (K × C)
put_at (Ok index) key content entries = set entries index ((get_or entries index (key, content)).0, content)
put_at (Err index) key content entries = insert entries index (key, content)

-- the content at an index, if that is not one of a new entry
abbrev pub content_at : {K C : Type 0} → Result ℕ ℕ → List (K × C) → Option C
content_at (Ok index) entries = option_map (λ entry. entry.1) (slice_get entries index)
content_at (Err index) entries = None

-- a key with any valid content may be put at the index
pub record MayPutAt {K C : Type 0} (cmp : K → K → Ordering) (valid : C → Type 0) (index : Result ℕ ℕ) (key : K) (entries : List (K × C)) : Type 0 where
  pub among : IsAmong (length entries) index
  pub table : (content : C) → valid content → IsTable cmp valid (put_at index key content entries)

-- a valid content is put at the index, and means the join of the content before and the one given
pub record IsJoinedAt {K C M : Type 0} (meaning : C → M) (joined : M → M → M) (valid : C → Type 0) (index : Result ℕ ℕ) (key : K) (content : C)
    (old new : List (K × C)) : Type 0 where
  pub value : C
  pub put : new ≡ put_at index key value old
  pub means : Some (meaning value) ≡ optional_joined joined (option_map meaning (content_at index old)) (Some (meaning content))
  pub is_valid : valid value

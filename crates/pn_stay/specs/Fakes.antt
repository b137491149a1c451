-- A source whose bytes come in pieces, and a sink that takes as many bytes as a list says.
use Rattle.std.specs.Prelude.{◌≡◌, ℕ, List, [], ◌∷◌, ◌++◌, drop, min}

-- the bytes of pieces, one after another
abbrev pub bytes_of : List (List ℕ) → List ℕ
bytes_of [] = []
bytes_of (piece ∷ pieces) = piece ++ bytes_of pieces

-- the first piece, or no bytes
abbrev pub first_piece : List (List ℕ) → List ℕ
first_piece [] = []
first_piece (piece ∷ later) = piece

-- the rest of a piece, if it has bytes, and those after it
abbrev pub with_later : List ℕ → List (List ℕ) → List (List ℕ)
with_later [] later = later
with_later (byte ∷ rest) later = (byte ∷ rest) ∷ later

-- the pieces that are left once this number of bytes of the first was taken
abbrev pub pieces_after : ℕ → List (List ℕ) → List (List ℕ)
pieces_after count [] = []
pieces_after count (piece ∷ later) = with_later (drop count piece) later

-- the next read waits: the first piece is empty
abbrev pub IsPaused : List (List ℕ) → Type 0
IsPaused [] = ⊥
IsPaused (piece ∷ later) = piece ≡ []

-- the bytes that a sink took, and how many each further call takes at most
pub record FakeSinkValue : Type 0 where
  pub bytes : List ℕ
  pub counts : List ℕ

-- how many bytes of this number a call takes: all, once there are no more counts
abbrev pub taken_by : List ℕ → ℕ → ℕ
taken_by [] len = len
taken_by (count ∷ counts) len = min len count

-- the next call waits: its count is 0
abbrev pub TakesNone : List ℕ → Type 0
TakesNone [] = ⊥
TakesNone (count ∷ counts) = count ≡ 0

-- What is known of a line while it is read, what reading it takes from its source, and its end.
use Rattle.std.specs.Prelude.{ℕ, ◌+◌, ◌-◌, List, ◌++◌, length, take, ◌≡◌, ◌≢◌, ◌<◌, Bool, true, false, [], ◌∷◌, Option, IfSome, OnSome, All, Contains, ◌↔◌, ◌≤◌}
use Rattle.std.specs.Io.KnownBytes.{Consumes, IsAtEnd}
use Rattle.pn_line.specs.declared.line_buffer.TheConstants.{MAX_LINE_BYTES, MAX_KEPT_BYTES, ENDLESS}
use Rattle.pn_line.specs.declared.line_buffer.Piece.{Piece}
use Rattle.pn_line.specs.declared.line_buffer.Piece.TheVariants.{Part, Ended, NoMore}
use Rattle.pn_line.specs.declared.reading.LineEnd.{LineEnd}
use Rattle.pn_line.specs.declared.reading.LineEnd.TheVariants.{Newline, EndOfInput, Endless}
use Rattle.pn_line.specs.declared.reading.BoundedEnd.{BoundedEnd}
use Rattle.pn_line.specs.declared.reading.BoundedEnd.TheVariants as bounded

-- What is known of a line while it is read: its first bytes and its length.

-- how many bytes a line may have without its newline
abbrev pub max_line_bytes : ℕ
max_line_bytes = MAX_LINE_BYTES

-- how many bytes of a line are kept
unfoldable pub max_kept : ℕ
max_kept = MAX_KEPT_BYTES

-- the bytes of a line that are kept
abbrev pub kept_bytes : List ℕ → List ℕ
kept_bytes line = take max_kept line

-- a line so far: its kept bytes, and how many bytes it has
pub record LineBufferValue : Type 0 where
  pub bytes : List ℕ
  pub count : ℕ

-- what is known of a line with these bytes
abbrev pub so_far : List ℕ → LineBufferValue
so_far line = record { bytes = kept_bytes line; count = length line }

-- the line goes on with these bytes, of which it keeps as many as it has capacity for
abbrev pub with_bytes : LineBufferValue → List ℕ → LineBufferValue
with_bytes line bs = record { bytes = line.bytes ++ take (max_kept - length line.bytes) bs; count = line.count + length bs }

-- What reading a line takes from its source.

-- none of these bytes is a newline
abbrev pub IsUnbroken : List ℕ → Type 0
IsUnbroken bs = All (λ b. b ≢ 10) bs

-- the bytes are what was appended to the line, without a newline, and what comes after it
pub record Splits (old new : LineBufferValue) (bs after : List ℕ) : Type 0 where
  pub taken : List ℕ
  pub unbroken : IsUnbroken taken
  pub line : new ≡ with_bytes old taken
  pub whole : bs ≡ taken ++ after

-- the source lost the bytes appended to the line, without a newline, and those after them
pub record Takes (old new : LineBufferValue) (left leaves : Option (List ℕ)) (after : List ℕ) : Type 0 where
  pub taken : List ℕ
  pub unbroken : IsUnbroken taken
  pub line : new ≡ with_bytes old taken
  pub source : Consumes left leaves (taken ++ after)

-- the newline that a piece of a line ends with, if it does
abbrev pub newline_after : Piece → List ℕ
newline_after Part = []
newline_after (Ended more) = 10 ∷ []
newline_after NoMore = []

-- if another newline was seen, the bytes left contain one, where they are known
abbrev pub HasShown : Bool → Option (List ℕ) → Type 0
HasShown true left = IfSome left (λ rest. Contains rest 10)
HasShown false left = Unit {0}

-- if another newline was seen after a piece, the bytes left contain one, where they are known
abbrev pub HasMore : Piece → Option (List ℕ) → Type 0
HasMore Part left = Unit {0}
HasMore (Ended more) left = HasShown more left
HasMore NoMore left = Unit {0}

-- what a poll took of a line: bytes of it, or the rest of it and its newline, or nothing at the end of the source
pub record TakesPiece (piece : Piece) (old new : LineBufferValue) (left leaves : Option (List ℕ)) : Type 0 where
  pub takes : Takes old new left leaves (newline_after piece)
  pub grows : piece ≡ Part → old.count < new.count
  pub below : piece ≢ Part → new.count < ENDLESS
  pub end : piece ≡ NoMore → OnSome left (IsAtEnd leaves)
  pub more : OnSome left (HasMore piece leaves)

-- The end of a line that was read.

-- the newline that was taken after the line, if one was
abbrev pub newline_taken : LineEnd → List ℕ
newline_taken (Newline more) = 10 ∷ []
newline_taken EndOfInput = []
newline_taken Endless = []

-- if another newline was seen after the line, the bytes left contain one
abbrev pub HasNext : LineEnd → Option (List ℕ) → Type 0
HasNext (Newline more) left = HasShown more left
HasNext EndOfInput left = Unit {0}
HasNext Endless left = Unit {0}

-- the line was read up to this end: its newline, that of the input, or as many bytes as a line without end has
pub record ReadsUpTo (end : LineEnd) (old new : LineBufferValue) (left leaves : Option (List ℕ)) : Type 0 where
  pub takes : Takes old new left leaves (newline_taken end)
  pub endless : (end ≡ Endless) ↔ (new.count ≡ ENDLESS)
  pub below : end ≢ Endless → new.count < ENDLESS
  pub at_end : end ≡ EndOfInput → OnSome left (IsAtEnd leaves)
  pub more : OnSome left (HasNext end leaves)

-- the line was read to its newline or to the end of the input and is short enough, or it is too long and reading stopped
abbrev pub ReadsTo : BoundedEnd → LineBufferValue → LineBufferValue → Option (List ℕ) → Option (List ℕ) → Type 0
ReadsTo (bounded.Newline more) old new left leaves = Takes old new left leaves (10 ∷ []) × (new.count ≤ max_line_bytes) × OnSome left (HasShown more leaves)
ReadsTo bounded.EndOfInput old new left leaves = Takes old new left leaves [] × OnSome left (IsAtEnd leaves) × (new.count ≤ max_line_bytes)
ReadsTo bounded.TooLong old new left leaves = ((after : List ℕ) × Takes old new left leaves after) × (max_line_bytes < new.count)

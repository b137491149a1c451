-- The lines of a text, which a newline ends, and a text of which some lines were read.
use Rattle.std.specs.Prelude.{ℕ, List, [], ◌∷◌, ◌++◌, ◌==◌, if◌then◌else◌, ◌≡◌, Option, Some, All}
use Rattle.pn_line.specs.Line.{IsUnbroken}

-- The lines of a text, which a newline ends.

-- the byte before the first of some lines, or alone in one
abbrev pub onto_first : ℕ → List (List ℕ) → List (List ℕ)
onto_first b [] = (b ∷ []) ∷ []
onto_first b (line ∷ lines) = (b ∷ line) ∷ lines

-- the lines of a text: a last line without newline is a line, and nothing after the last newline is none
unfoldable pub lines_of : List ℕ → List (List ℕ)
lines_of [] = []
lines_of (b ∷ bytes) = if b == 10 then [] ∷ lines_of bytes else onto_first b (lines_of bytes)

-- the lines of a text without newline: the text, where it has a byte
abbrev pub last_line : List ℕ → List (List ℕ)
last_line [] = []
last_line (b ∷ line) = (b ∷ line) ∷ []

-- the text of some lines, each with its newline
unfoldable pub text_of : List (List ℕ) → List ℕ
text_of [] = []
text_of (line ∷ lines) = line ++ 10 ∷ text_of lines

-- A text of which some lines were read.

-- these whole lines of the text were read, and the rest is left in the source
pub record LinesRead (text : List ℕ) (left : Option (List ℕ)) (lines : List (List ℕ)) : Type 0 where
  pub rest : List ℕ
  pub unbroken : All IsUnbroken lines
  pub text_is : text ≡ text_of lines ++ rest
  pub left_is : left ≡ Some rest

-- these whole lines were read and then a part of a line, and the rest is left in the source
pub record PartRead (text : List ℕ) (left : Option (List ℕ)) (lines : List (List ℕ)) (part : List ℕ) : Type 0 where
  pub rest : List ℕ
  pub unbroken : All IsUnbroken lines
  pub part_unbroken : IsUnbroken part
  pub text_is : text ≡ text_of lines ++ (part ++ rest)
  pub left_is : left ≡ Some rest

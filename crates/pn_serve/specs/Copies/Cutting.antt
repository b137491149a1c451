-- How the texts of copies are cut out of a text in which they stand one after another, line by line.
use Rattle.std.specs.Prelude.{◌≡◌, ◌==◌, ℕ, ◌+◌, ◌<◌, ◌≤◌, Bool, true, false, List, [], ◌∷◌, ◌++◌, ◌⊎◌, length, min, All, codes, Option, Some}
use Rattle.std.specs.List.{starts_with}
use Rattle.pn_line.specs.Line.{max_line_bytes, LineBufferValue, IsUnbroken}
use Rattle.pn_line.specs.Text.{text_of}
use Rattle.pn_serve.specs.declared.copies.fault.CopiesFault.{CopiesFault}
use Rattle.pn_serve.specs.declared.copies.fault.CopiesFault.TheVariants.{Memory, Read}
use Rattle.pn_serve.specs.declared.copies.texts.AddedLine.{AddedLine}
use Rattle.pn_serve.specs.declared.copies.texts.AddedLine.TheVariants as added

-- How the texts of copies are cut out of a text in which they stand one after another.

-- the text of a copy: its bytes, the number of its first line in the whole text, how many of its lines end in a newline, and
-- whether the line after these is too long
pub record CopyCutValue : Type 0 where
  pub text : List ℕ
  pub first : ℕ
  pub lines : ℕ
  pub is_too_long : Bool

-- what is left of the whole text: the number of its next line, and its bytes
pub record TextLeft : Type 0 where
  pub next : ℕ
  pub bytes : List ℕ

-- the number of a line, which goes up to the greatest of 64 bits
abbrev pub line_number : ℕ → ℕ
line_number n = min n 18446744073709551615

-- the line begins as the end of a copy does
abbrev pub begins_end : List ℕ → Bool
begins_end line = starts_with ◌==◌ line (codes "{\"end\":")

-- a line, short enough, that begins as the end of a copy does, or does not
pub record IsLineThat (ends : Bool) (line : List ℕ) : Type 0 where
  pub unbroken : IsUnbroken line
  pub short : length line ≤ max_line_bytes
  pub begins : begins_end line ≡ ends

-- the text goes up to and with the first line that begins as an end does
pub record HasEnd (bytes : List ℕ) (cut : CopyCutValue) (rest : List ℕ) : Type 0 where
  pub before : List (List ℕ)
  pub last : List ℕ
  pub inner : All (IsLineThat false) before
  pub ends : IsLineThat true last
  pub text_is : cut.text ≡ text_of (before ++ last ∷ [])
  pub lines_are : cut.lines ≡ length before + 1
  pub whole : cut.is_too_long ≡ false
  pub bytes_are : bytes ≡ cut.text ++ rest

-- no line begins so, and the text is all that is left: lines, and then a part of a line, which may be empty
pub record HasNoEnd (bytes : List ℕ) (cut : CopyCutValue) (rest : List ℕ) : Type 0 where
  pub before : List (List ℕ)
  pub part : List ℕ
  pub inner : All (IsLineThat false) before
  pub part_unbroken : IsUnbroken part
  pub part_short : length part ≤ max_line_bytes
  pub text_is : cut.text ≡ text_of before ++ part
  pub lines_are : cut.lines ≡ length before
  pub whole : cut.is_too_long ≡ false
  pub bytes_are : bytes ≡ cut.text
  pub rest_is : rest ≡ []

-- before a line begins so, one is too long, at which reading stops
pub record HasLongLine (bytes : List ℕ) (cut : CopyCutValue) (rest : List ℕ) : Type 0 where
  pub before : List (List ℕ)
  pub long : List ℕ
  pub after : List ℕ
  pub inner : All (IsLineThat false) before
  pub unbroken : IsUnbroken long
  pub is_long : max_line_bytes < length long
  pub text_is : cut.text ≡ text_of before
  pub lines_are : cut.lines ≡ length before
  pub cut_off : cut.is_too_long ≡ true
  pub bytes_are : bytes ≡ cut.text ++ (long ++ (after ++ rest))

-- the next text of a copy is cut out
pub record IsCut (left : TextLeft) (cut : CopyCutValue) (later : TextLeft) : Type 0 where
  pub first_is : cut.first ≡ left.next
  pub next_is : later.next ≡ line_number (left.next + cut.lines)
  pub way : HasEnd left.bytes cut later.bytes ⊎ HasNoEnd left.bytes cut later.bytes ⊎ HasLongLine left.bytes cut later.bytes

-- these texts are cut out, one after another
abbrev pub AreCuts : TextLeft → List CopyCutValue → TextLeft → Type 0
AreCuts left [] later = left ≡ later
AreCuts left (cut ∷ cuts) later = (between : TextLeft) × IsCut left cut between × AreCuts between cuts later

-- What reading a line adds to the text of a copy.

-- what is left of a text of copies: the source of its bytes, the line that is read, and the number of the next line
pub record CopyTextsValue (S : Type 0) : Type 0 where
  pub source : S
  pub line : LineBufferValue
  pub next : ℕ

-- a line was read, and added with its newline
pub record AddsLine (ends : Bool) (old new bytes : List ℕ) (leaves : Option (List ℕ)) : Type 0 where
  pub line : List ℕ
  pub rest : List ℕ
  pub line_is : IsLineThat ends line
  pub text_is : new ≡ old ++ (line ++ 10 ∷ [])
  pub bytes_are : bytes ≡ line ++ 10 ∷ rest
  pub leaves_is : leaves ≡ Some rest

-- what was left had no newline, and was added
pub record AddsPart (old new bytes : List ℕ) (leaves : Option (List ℕ)) : Type 0 where
  pub unbroken : IsUnbroken bytes
  pub short : length bytes ≤ max_line_bytes
  pub text_is : new ≡ old ++ bytes
  pub leaves_is : leaves ≡ Some []

-- the line is too long, and reading it stopped
pub record AddsNone (old new bytes : List ℕ) (leaves : Option (List ℕ)) : Type 0 where
  pub long : List ℕ
  pub after : List ℕ
  pub rest : List ℕ
  pub unbroken : IsUnbroken long
  pub is_long : max_line_bytes < length long
  pub text_is : new ≡ old
  pub bytes_are : bytes ≡ long ++ (after ++ rest)
  pub leaves_is : leaves ≡ Some rest

-- what was read of known bytes
abbrev pub Adds : AddedLine → List ℕ → List ℕ → List ℕ → Option (List ℕ) → Type 0
Adds added.Line old new bytes leaves = AddsLine false old new bytes leaves
Adds added.End old new bytes leaves = AddsLine true old new bytes leaves
Adds added.Last old new bytes leaves = AddsPart old new bytes leaves
Adds added.TooLong old new bytes leaves = AddsNone old new bytes leaves

-- a fault that is not of the text: no memory, or an error of the reader
abbrev pub IsNoTextFault : Type 0 → CopiesFault → Type 0
IsNoTextFault may_fail Memory = Unit {0}
IsNoTextFault may_fail Read = may_fail
IsNoTextFault may_fail _ = ⊥

-- Texts of copies that have a faulty line, whatever follows.
use Rattle.std.specs.Prelude.{◌≡◌, ◌⊎◌, ℕ, ◌+◌, ◌*◌, ◌≤◌, Bool, true, false, List, [], ◌∷◌, ◌++◌, All, length, max, Result, Ok, Err}
use Rattle.pn_line.specs.Line.{max_line_bytes}
use Rattle.pn_line.specs.Text.{text_of}
use Rattle.pn_tablet.specs.Copies.{TabletCopyValue}
use Rattle.pn_tablet.specs.CopyReading.{copy_at}
use Rattle.pn_tablet.specs.declared.fault.CopyTextFault.{CopyTextFault}
use Rattle.pn_tablet.specs.declared.fault.CopyTextFault.TheVariants.{Truncated, BadLine, OutsideRange, NotRising, BadEnd, Memory}
use Rattle.pn_serve.specs.Copies.Cutting.{CopyCutValue, IsCut, IsLineThat, TextLeft}
use Rattle.pn_serve.specs.declared.copies.reading.TheConstants.{FIRST_BYTES, PART}
use Rattle.pn_serve.specs.declared.copies.texts.NextText.{NextText}
use Rattle.pn_serve.specs.declared.copies.texts.NextText.TheVariants.{Whole, Faulty, Nothing}

-- the fault is that of a line which is no end
abbrev pub is_of_line : CopyTextFault → Bool
is_of_line (BadLine n) = true
is_of_line (OutsideRange n) = true
is_of_line (NotRising n) = true
is_of_line Truncated = false
is_of_line BadEnd = false
is_of_line Memory = false

-- a text that is read so has the fault of a line
abbrev pub has_faulty_line : Result TabletCopyValue CopyTextFault → Bool
has_faulty_line (Ok copy) = false
has_faulty_line (Err fault) = is_of_line fault

-- the first lines of the next text, none of which begins as an end does, have the fault of a line
pub record IsCutAtFault (left : TextLeft) (cut : CopyCutValue) : Type 0 where
  pub before : List (List ℕ)
  pub rest : List ℕ
  pub inner : All (IsLineThat false) before
  pub first_is : cut.first ≡ left.next
  pub text_is : cut.text ≡ text_of before
  pub bytes_are : left.bytes ≡ cut.text ++ rest
  pub faulty : has_faulty_line (copy_at cut.text) ≡ true

-- the next text is cut out, or its first lines up to a fault; or nothing is left
abbrev pub CutsNext : TextLeft → NextText → TextLeft → Type 0
CutsNext left (Whole cut) later = IsCut left cut later
CutsNext left (Faulty cut) later = IsCutAtFault left cut
CutsNext left Nothing later = (left.bytes ≡ []) × (later ≡ left)

-- but for its last line, the text is at most 64 times as long as each of its fronts that has a faulty line, or a mebibyte
abbrev pub EndsSoon : List ℕ → Type 0
EndsSoon text =
    (front more : List ℕ) → text ≡ front ++ more → has_faulty_line (copy_at front) ≡ true → length text ≤ max FIRST_BYTES (2 * PART * length front) + (max_line_bytes + 1)

-- the text that is cut out ends soon after its first faulty line
abbrev pub IsCutSoon : NextText → Type 0
IsCutSoon (Whole cut) = EndsSoon cut.text
IsCutSoon (Faulty cut) = EndsSoon cut.text
IsCutSoon Nothing = Unit {0}

-- these texts are cut out, one after another, of which the last may be cut at a fault
abbrev pub AreCutsToFault : TextLeft → List CopyCutValue → TextLeft → Type 0
AreCutsToFault left [] later = left ≡ later
AreCutsToFault left (cut ∷ cuts) later =
    ((between : TextLeft) × IsCut left cut between × AreCutsToFault between cuts later) ⊎ ((cuts ≡ []) × IsCutAtFault left cut)

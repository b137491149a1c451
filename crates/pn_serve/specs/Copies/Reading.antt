-- The copies of a text in which they stand one after another, or why it has none.
use Rattle.std.specs.Prelude.{◌≡◌, ℕ, List, ◌+◌, ◌-◌, ◌<◌, ◌≤◌, if◌then◌else◌, [], ◌∷◌, ◌++◌, ◌⊎◌, length, map, Option, Some, Result, Ok, Err}
use Rattle.serde_json.specs.Data.{Members}
use Rattle.pn_json.specs.Answers.{IsUnless}
use Rattle.pn_tablet.specs.declared.fault.CopyTextFault.{CopyTextFault}
use Rattle.pn_tablet.specs.Copies.{TabletCopyValue}
use Rattle.pn_tablet.specs.CopyReading.{copy_at}
use Rattle.pn_tablet.specs.declared.layout.TheConstants.{MAX_BOUNDS}
use Rattle.pn_tablet.specs.declared.fault.CopyTextFault.TheVariants as text_fault
use Rattle.pn_protocol.specs.Reply.Faults.{error_data, copy_text_fault_data}
use Rattle.pn_serve.specs.Copies.Cutting.{AreCuts, CopyCutValue, IsCut, TextLeft, line_number}
use Rattle.pn_serve.specs.declared.copies.fault.CopiesFault.{CopiesFault}
use Rattle.pn_serve.specs.declared.copies.fault.CopiesFault.TheVariants.{Line, Memory, Read, TooMany}

-- The words of faults of copies.

-- the word is the error of the reply to a text with this fault
abbrev pub IsErrorOf : CopyTextFault → List ℕ → Type 0
IsErrorOf fault word = (details : Members) × (copy_text_fault_data fault ≡ error_data word details)

-- the fault of a copy's text, with its line in the whole text: a copy is truncated at the line that it lacks, has a bad end in
-- its last line, and a bad line where that is too long
abbrev pub told_in : CopyCutValue → CopyTextFault → CopiesFault
told_in cut (text_fault.BadLine n) = Line (line_number (cut.first + (n - 1))) (text_fault.BadLine n)
told_in cut (text_fault.OutsideRange n) = Line (line_number (cut.first + (n - 1))) (text_fault.OutsideRange n)
told_in cut (text_fault.NotRising n) = Line (line_number (cut.first + (n - 1))) (text_fault.NotRising n)
told_in cut text_fault.BadEnd = Line (line_number (cut.first + cut.lines) - 1) text_fault.BadEnd
told_in cut text_fault.Truncated =
    Line (line_number (cut.first + cut.lines)) (if cut.is_too_long then text_fault.BadLine (line_number (cut.lines + 1)) else text_fault.Truncated)
told_in cut text_fault.Memory = Memory

-- the copy that a copy's text spells, after which nothing may follow, or its fault
abbrev pub read_in : CopyCutValue → Result TabletCopyValue CopyTextFault → Result TabletCopyValue CopiesFault
read_in cut (Ok copy) = if cut.is_too_long then Err (told_in cut text_fault.BadEnd) else Ok copy
read_in cut (Err fault) = Err (told_in cut fault)

abbrev pub copy_in_cut : CopyCutValue → Result TabletCopyValue CopiesFault
copy_in_cut cut = read_in cut (copy_at cut.text)

-- each text was read, unless memory ran out
abbrev pub AreRead : List CopyCutValue → List (Result TabletCopyValue CopiesFault) → Type 0
AreRead [] [] = Unit {0}
AreRead [] (read ∷ reads) = ⊥
AreRead (cut ∷ cuts) [] = ⊥
AreRead (cut ∷ cuts) (read ∷ reads) = IsUnless Memory read (copy_in_cut cut) × AreRead cuts reads

-- all of these were read, and added
pub record AreAdded (reads : List (Result TabletCopyValue CopiesFault)) (old new : List TabletCopyValue) : Type 0 where
  pub added : List TabletCopyValue
  pub reads_are : reads ≡ map Ok added
  pub copies_are : new ≡ old ++ added

-- the copies before this one were added, and it has this fault, or is one too many
pub record StopsAt (reads : List (Result TabletCopyValue CopiesFault)) (old : List TabletCopyValue) (fault : CopiesFault) : Type 0 where
  pub before : List TabletCopyValue
  pub read : Result TabletCopyValue CopiesFault
  pub later : List (Result TabletCopyValue CopiesFault)
  pub reads_are : reads ≡ map Ok before ++ read ∷ later
  pub why : ((fault ≡ TooMany) × (MAX_BOUNDS + 1 ≤ length (old ++ before))) ⊎ ((read ≡ Err fault) × (length (old ++ before) < MAX_BOUNDS + 1))

-- a reader of copies: the source of their text, the number of its next line, and the copies that were read
pub record CopiesReaderValue (S : Type 0) : Type 0 where
  pub source : S
  pub next : ℕ
  pub copies : List TabletCopyValue

-- the whole text, of which nothing was read
abbrev pub whole_text : List ℕ → TextLeft
whole_text text = record { next = 1; bytes = text }

-- the first copies of the text were read
pub record HasRead {S : Type 0} (left : S → Option (List ℕ)) (text : List ℕ) (reader : CopiesReaderValue S) : Type 0 where
  pub cuts : List CopyCutValue
  pub rest : List ℕ
  pub are_cuts : AreCuts (whole_text text) cuts (record { next = reader.next; bytes = rest })
  pub left_is : left reader.source ≡ Some rest
  pub copies_are : map copy_in_cut cuts ≡ map Ok reader.copies

-- after some copies of the text, the next one has this fault, or is one too many
pub record StopsText (text : List ℕ) (fault : CopiesFault) : Type 0 where
  pub cuts : List CopyCutValue
  pub copies : List TabletCopyValue
  pub cut : CopyCutValue
  pub between : TextLeft
  pub later : TextLeft
  pub are_cuts : AreCuts (whole_text text) cuts between
  pub copies_are : map copy_in_cut cuts ≡ map Ok copies
  pub is_cut : IsCut between cut later
  pub why : ((fault ≡ TooMany) × (MAX_BOUNDS + 1 ≤ length copies)) ⊎ ((copy_in_cut cut ≡ Err fault) × (length copies < MAX_BOUNDS + 1))

-- why a text is not read on: memory, an error of the reader, or its first fault
abbrev pub StopsReading : Type 0 → List ℕ → CopiesFault → Type 0
StopsReading may_fail text Memory = Unit {0}
StopsReading may_fail text Read = may_fail
StopsReading may_fail text fault = StopsText text fault

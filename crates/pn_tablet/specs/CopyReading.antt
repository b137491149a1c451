-- A text read line by line, all at once or in chunks: the copy that it spells, or its first fault.
use Rattle.std.specs.Prelude.{ℕ, Bool, if◌then◌else◌, List, [], ◌∷◌, codes, Option, None, Some, is_some, Result, Ok, Err, ◌+◌, ◌-◌, ◌==◌, true, false, not, ◌&&◌, ◌++◌, ◌≡◌, All, IsTrue}
use Rattle.std.specs.Option.{ok_or, option_map_or}
use Rattle.std.specs.List.{list_all}
use Rattle.std.specs.Ordering.{is_lt}
use Rattle.serde_json.specs.Data.{Data, null, string}
use Rattle.serde_json.specs.Find.{get, as_str, as_object}
use Rattle.pn_line.specs.Text.{onto_first, text_of}
use Rattle.pn_line.specs.Line.{IsUnbroken}
use Rattle.pn_join.specs.Marks.{name_cmp, is_position}
use Rattle.pn_json.specs.Answers.{◌>>=◌}
use Rattle.pn_json.specs.Members.{whole_number, member_as, no_others}
use Rattle.pn_record.specs.Grammar.{image_in}
use Rattle.pn_record.specs.Marks.{is_mark}
use Rattle.pn_record.specs.Reading.{value_at, IsLine}
use Rattle.pn_record.specs.declared.records.Image.{Image}
use Rattle.pn_record.specs.Cells.{adds}
use Rattle.pn_tablet.specs.CopyTexts.{Head, is_range, IsValue, AreLines, form_at, may_hold, comes_after}
use Rattle.pn_tablet.specs.declared.copy.Form.{Form}
use Rattle.pn_tablet.specs.declared.copy_line.CopyLine.{CopyLine}
use Rattle.pn_tablet.specs.declared.copy_line.CopyLine.TheVariants.{Mark, Record, End}
use Rattle.pn_tablet.specs.Copies.{TabletCopyValue, DraftValue, empty_draft, copy_of_draft}
use Rattle.pn_tablet.specs.Layouts.{in_range}
use Rattle.pn_tablet.specs.declared.fault.CopyTextFault.{CopyTextFault}
use Rattle.pn_tablet.specs.declared.fault.CopyTextFault.TheVariants.{Truncated, BadLine, OutsideRange, NotRising, BadEnd}

-- The lines of a copy's text, read one by one.

-- any fault as this one
abbrev pub or_as : {A E F : Type 0} → F → Result A E → Result A F
or_as fault (Ok value) = Ok value
or_as fault (Err other) = Err fault

-- the value, where it keeps the limits
abbrev pub if_fits : {A F : Type 0} → Bool → F → A → Result A F
if_fits fits fault value = if fits then Ok value else Err fault

-- an end of a range: a text, or null where the range is open
abbrev pub end_of : Data → Option (Option (List ℕ))
end_of null = Some None
end_of (string key) = Some (Some key)
end_of _ = None

-- the form and the range of a head
unfoldable pub head_in : {F : Type 0} → F → Data → Result Head F
head_in fault d = do
  members ← ok_or (as_object d) fault
  number ← member_as whole_number fault (get (codes "copy") d)
  from ← member_as end_of fault (get (codes "from") d)
  to ← member_as end_of fault (get (codes "to") d)
  named ← no_others (codes "copy" ∷ codes "from" ∷ codes "to" ∷ []) fault members
  form ← ok_or (form_at number) fault
  range ← if_fits (is_range (from, to)) fault (from, to)
  Ok (form, range)

-- a mark: a stream's name, and a position of 1 to 10^15
unfoldable pub mark_in : {F : Type 0} → F → Data → Result CopyLine F
mark_in fault d = do
  members ← ok_or (as_object d) fault
  position ← member_as whole_number fault (get (codes "at") d)
  name ← member_as as_str fault (get (codes "stream") d)
  named ← no_others (codes "at" ∷ codes "stream" ∷ []) fault members
  if_fits (is_mark (name, position)) fault (Mark name position)

-- an end
unfoldable pub end_in : {F : Type 0} → F → Data → Result CopyLine F
end_in fault d = do
  members ← ok_or (as_object d) fault
  count ← member_as whole_number fault (get (codes "end") d)
  named ← no_others (codes "end" ∷ []) fault members
  Ok (End count)

-- an image that may stand in a copy of the form
unfoldable pub record_in : {F : Type 0} → Form → F → Data → Result CopyLine F
record_in form fault d = do
  image ← or_as fault (image_in d)
  if_fits (may_hold form image) fault (Record image)

-- a line after the head: a mark where it has a member `at`, an end where it has `end`, otherwise an image
unfoldable pub line_in : {F : Type 0} → Form → F → Data → Result CopyLine F
line_in form fault d = if is_some (get (codes "at") d) then mark_in fault d else (if is_some (get (codes "end") d) then end_in fault d else record_in form fault d)

-- the form and the range of a head's line, or the fault
unfoldable pub head_at : {F : Type 0} → F → List ℕ → Result Head F
head_at fault line = or_as fault (value_at line) >>= head_in fault

-- what a line after the head says, or the fault
unfoldable pub line_at : {F : Type 0} → Form → F → List ℕ → Result CopyLine F
line_at form fault line = or_as fault (value_at line) >>= line_in form fault

-- A text read line by line: the copy that it spells, or its first fault.

-- the pieces of a text between its newlines: its lines, and then the rest, which has no newline
unfoldable pub pieces_of : List ℕ → List (List ℕ)
pieces_of [] = [] ∷ []
pieces_of (b ∷ bytes) = if b == 10 then [] ∷ pieces_of bytes else onto_first b (pieces_of bytes)

-- nothing is left of a text
abbrev pub is_over : List (List ℕ) → Bool
is_over ([] ∷ []) = true
is_over _ = false

-- a mark comes before all images, and its name after those of the other marks
abbrev pub with_mark : ℕ → DraftValue → List ℕ × ℕ → Result DraftValue CopyTextFault
with_mark n draft mark =
    if is_some draft.last then Err (BadLine n) else
    (if list_all (λ other. is_lt (name_cmp other.0 mark.0)) draft.marks then Ok (record draft { marks = draft.marks ++ mark ∷ [] }) else Err (NotRising n))

-- an image lies in the range, and comes after the last one
abbrev pub with_image : ℕ → DraftValue → Image → Result DraftValue CopyTextFault
with_image n draft image =
    if not (in_range draft.range image.key) then Err (OutsideRange n) else
    (if option_map_or (λ last. comes_after last image) draft.last true
    then Ok (record draft { cells = adds draft.cells (image ∷ []); last = Some image }) else Err (NotRising n))

-- the end counts the lines between the head and itself, and nothing follows it
abbrev pub finish : ℕ → DraftValue → ℕ → Bool → Result TabletCopyValue CopyTextFault
finish n draft count over = if count == n - 2 && over then Ok (copy_of_draft draft) else Err BadEnd

-- line n, a mark or an image
abbrev pub with_line : ℕ → DraftValue → CopyLine → Result DraftValue CopyTextFault
with_line n draft (Mark name position) = with_mark n draft (name, position)
with_line n draft (Record image) = with_image n draft image
with_line n draft (End count) = Err BadEnd

-- line n and those after it, one by one, up to the first that has a fault
unfoldable pub with_lines : ℕ → DraftValue → List CopyLine → Result DraftValue CopyTextFault
with_lines n draft [] = Ok draft
with_lines n draft (line ∷ lines) = with_line n draft line >>= λ longer. with_lines (n + 1) longer lines

-- line n, and then the lines after it
abbrev pub after : ℕ → DraftValue → (DraftValue → Result TabletCopyValue CopyTextFault) → Bool → CopyLine → Result TabletCopyValue CopyTextFault
after n draft next over (Mark name position) = with_mark n draft (name, position) >>= next
after n draft next over (Record image) = with_image n draft image >>= next
after n draft next over (End count) = finish n draft count over

-- the copy, from what was read before line n and the pieces from there on
unfoldable pub read_on : Form → ℕ → DraftValue → List (List ℕ) → Result TabletCopyValue CopyTextFault
read_on form n draft [] = Err Truncated
read_on form n draft (part ∷ []) = Err Truncated
read_on form n draft (line ∷ piece ∷ pieces) =
    line_at form (BadLine n) line >>= after n draft (λ longer. read_on form (n + 1) longer (piece ∷ pieces)) (is_over (piece ∷ pieces))

-- the copy of a text's pieces
abbrev pub copy_in : List (List ℕ) → Result TabletCopyValue CopyTextFault
copy_in [] = Err Truncated
copy_in (part ∷ []) = Err Truncated
copy_in (head ∷ piece ∷ pieces) = head_at (BadLine 1) head >>= λ read. read_on read.0 2 (empty_draft read.1) (piece ∷ pieces)

-- the copy that the text spells, or the fault of the first line that has one
unfoldable pub copy_at : List ℕ → Result TabletCopyValue CopyTextFault
copy_at text = copy_in (pieces_of text)

-- The first lines of a text that follows the head of a copy, read before those that come before it.

-- a mark at a position of a message, or an image
abbrev pub IsMarkOrImage : CopyLine → Type 0
IsMarkOrImage (Mark name position) = IsTrue (is_position position)
IsMarkOrImage (Record image) = Unit {0}
IsMarkOrImage (End count) = ⊥

-- a line that says the end
abbrev pub says_end : CopyLine → Bool
says_end (End count) = true
says_end _ = false

-- the line is that of this mark or image
abbrev pub IsLineOf : Form → List ℕ → CopyLine → Type 0
IsLineOf form line says = IsLine (IsValue form) line says × IsMarkOrImage says

-- the text is whole lines, those of these marks and images, and then this rest
pub record BeginsWith (form : Form) (text : List ℕ) (says : List CopyLine) (rest : List ℕ) : Type 0 where
  pub lines : List (List ℕ)
  pub text_is : text ≡ text_of lines ++ rest
  pub unbroken : All IsUnbroken lines
  pub lines_are : AreLines form lines says
  pub kinds : All IsMarkOrImage says

-- the mark or image of the line is added at the end
pub record AddsLine (form : Form) (line : List ℕ) (old new : List CopyLine) : Type 0 where
  pub said : CopyLine
  pub line_is : IsLineOf form line said
  pub grown : new ≡ old ++ said ∷ []

-- The text that is written of a copy: its lines, made one at a time.
use Rattle.std.specs.Prelude.{◌≡◌, ℕ, List, [], ◌∷◌, ◌++◌, ◌≤◌, Some, ◌<◌, ◌+◌, ◌-◌, ◌^◌, min, length, map, drop, take, IfSome, Vec, refl}
use Rattle.std.specs.List.{flat_map, AllByRecursion, slice_get, sum_by}
use Rattle.std.specs.declared.alloc.Global.{Global}
use Rattle.std.specs.Coded.{Coded, code_by, coded×, coded_ℕ, coded_list}
use Rattle.std.specs.FinMap.{keys}
use Rattle.serde_json.specs.Data.{Data, depth}
use Rattle.serde_json.specs.Read.{of_json}
use Rattle.serde_json.specs.Written.{compact_text, outline}
use Rattle.pn_line.specs.Line.{IsUnbroken}
use Rattle.pn_line.specs.Text.{lines_of}
use Rattle.pn_json.specs.Tokens.{MakesPiece}
use Rattle.pn_record.specs.Cells.{spell, Entries}
use Rattle.pn_record.specs.Reading.{IsLine, reading}
use Rattle.pn_record.specs.Writing.{image_data}
use Rattle.pn_tablet.specs.Copies.{TabletCopyValue}
use Rattle.pn_tablet.specs.CopyTexts.{head_data, mark_data, end_data, IsValue, lines_after_head, mark_line, form_of}
use Rattle.pn_tablet.specs.declared.copy.Form.TheVariants.{Numbers}
use Rattle.pn_tablet.specs.declared.copy_line.CopyLine.{CopyLine}
use Rattle.pn_tablet.specs.declared.copy_line.CopyLine.TheVariants.{Mark, Record, End}
use Rattle.pn_tablet.specs.Proofs.{copy_code}
use Rattle.pn_tablet.specs.Tablets.{entries_weight, record_weight}
use Rattle.pn_tablet.specs.declared.copy_count.LineCount.{LineCount}
use Rattle.pn_tablet.specs.declared.copy_line_writing.TheConstants.{MAX_COPY_LINE_BYTES}
use Rattle.pn_tablet.specs.declared.copy_text.CopyCursor.{CopyCursor}
use Rattle.pn_tablet.specs.declared.copy_text.CopyCursor.TheVariants.{Head, Mark as AtMark, Image, Written}
use Rattle.pn_tablet.specs.declared.copy.Form.{Form}

-- The text that is written of a copy: each line as compact JSON.

-- the JSON of a line after the head
abbrev pub line_data : CopyLine → Data
line_data (Mark name position) = mark_data (name, position)
line_data (Record image) = image_data image
line_data (End count) = end_data count

-- a value as a line
abbrev pub line_text : Data → List ℕ
line_text d = compact_text d ++ 10 ∷ []

-- lines, one after another
abbrev pub lines_text : List CopyLine → List ℕ
lines_text says = flat_map (λ line. line_text (line_data line)) says

-- the one spelling of a copy that is written
abbrev pub copy_text : TabletCopyValue → List ℕ
copy_text copy = line_text (head_data (form_of (spell copy.cells), copy.range)) ++ lines_text (lines_after_head copy.marks (spell copy.cells))

-- the value is what its text is read as
abbrev pub IsReadAgain : Data → Type 0
IsReadAgain d = of_json (outline d) ≡ Some d

-- the line of a value was written; it is read as the value, unless the value is deep
abbrev pub WritesValue : List ℕ → List ℕ → Data → Type 0
WritesValue old new d = (new ≡ old ++ line_text d) × (IsReadAgain d → depth d ≤ 127 → reading (compact_text d) ≡ Some d)

-- the text of the value is a line of what is meant, with no newline within
pub record IsWritten {A : Type 0} (IsSpelled : Data → A → Type 0) (d : Data) (meant : A) : Type 0 where
  pub line : IsLine IsSpelled (compact_text d) meant
  pub unbroken : IsUnbroken (compact_text d)

-- the line may stand in a copy of form 2
abbrev pub IsWrittenLine : CopyLine → Type 0
IsWrittenLine line = IsWritten (IsValue Numbers) (line_data line) line

-- these lines were written, and each is a line of what it means
abbrev pub WritesLines : List ℕ → List ℕ → List CopyLine → Type 0
WritesLines old new says = (new ≡ old ++ lines_text says) × AllByRecursion IsWrittenLine says

-- The lines of copies, counted and then made one at a time.

-- a copy, and of how many records the lines are counted
pub record CopyCountValue : Type 0 where
  pub copy : TabletCopyValue
  pub index : ℕ

-- it is stored as a pair
abbrev pub count_code : Coded CopyCountValue
count_code = code_by (TabletCopyValue × ℕ) (coded× copy_code coded_ℕ) (λ c. (c.copy, c.index)) (λ p. record { copy = p.0; index = p.1 }) (λ _. refl)

-- a copy, and the rest of its text
pub record CopyTextValue : Type 0 where
  pub copy : TabletCopyValue
  pub left : List ℕ

-- it is stored as a pair
abbrev pub text_code : Coded CopyTextValue
text_code = code_by (TabletCopyValue × List ℕ) (coded× copy_code (coded_list coded_ℕ)) (λ t. (t.copy, t.left)) (λ p. record { copy = p.0; left = p.1 }) (λ _. refl)

-- the first records were counted: their images have this many lines, in this form; and weighed, beside those that are left
pub record IsCountedIn (cells : Entries) (counted : LineCount) : Type 0 where
  pub within : counted.records ≤ length cells
  pub images_are : counted.images ≡ length (spell (take counted.records cells))
  pub form_is : counted.form ≡ form_of (spell (take counted.records cells))
  pub weight_is : min (counted.weight + sum_by record_weight (drop counted.records cells)) (2 ^ 64 - 1) ≡ entries_weight cells
  pub weight_fits : counted.weight < 2 ^ 64

-- how many lines the text of a copy has
abbrev pub lines_of_copy : TabletCopyValue → ℕ
lines_of_copy copy = length (lines_of (copy_text copy))

-- how many lines are between the head of a copy and its end
abbrev pub lines_between : TabletCopyValue → ℕ
lines_between copy = length copy.marks + length (spell copy.cells)

-- the text from a cursor on
abbrev pub copy_rest : TabletCopyValue → CopyCursor → List ℕ
copy_rest copy Head = copy_text copy
copy_rest copy (AtMark index) = lines_text (map mark_line (drop index copy.marks) ++ (map Record (spell copy.cells) ++ End (lines_between copy) ∷ []))
copy_rest copy (Image index content) = lines_text (map Record (drop content (spell (drop index copy.cells))) ++ End (lines_between copy) ∷ [])
copy_rest copy Written = []

-- the cursor of an image is one of its record's contents, if there is such a record
abbrev pub IsCopyCursor : TabletCopyValue → CopyCursor → Type 0
IsCopyCursor copy Head = Unit {0}
IsCopyCursor copy (AtMark index) = Unit {0}
IsCopyCursor copy (Image index content) = IfSome (slice_get copy.cells index) (λ entry. content < length (keys entry.1.1))
IsCopyCursor copy Written = Unit {0}

-- the count and the form are those of the copy, and the cursor is one of its text
pub record IsTextOf (copy : TabletCopyValue) (form : Form) (lines : ℕ) (cursor : CopyCursor) : Type 0 where
  pub form_is : form ≡ form_of (spell copy.cells)
  pub lines_are : lines ≡ lines_of_copy copy
  pub cursor_is : IsCopyCursor copy cursor

-- the next line was added to a buffer, if one was left
pub record MakesLine (copy : TabletCopyValue) (cursor : CopyCursor) (old new : Vec ℕ Global) (next : CopyCursor) : Type 0 where
  pub line : MakesPiece MAX_COPY_LINE_BYTES (copy_rest copy cursor) (copy_rest copy next) old new
  pub cursor_is : IsCopyCursor copy next

-- The text of a copy: its lines, the JSON of each, and how far a text goes on as one; else its fault.
use Rattle.std.specs.Prelude.{ℕ, ◌==◌, Bool, true, not, if◌then◌else◌, List, Option, Some, None, ◌≡◌, ◌&&◌, [], ◌∷◌, codes, IsTrue, ◌+◌, ◌||◌, ◌++◌, map, length, All, false, ◌⊎◌}
use Rattle.std.specs.List.{list_any, list_all}
use Rattle.std.specs.Ordering.{is_lt, eq_by_cmp}
use Rattle.std.specs.FinMap.{is_sorted}
use Rattle.serde_json.specs.Data.{Data, number, string, object, unsigned, no_members, member}
use Rattle.pn_line.specs.Line.{IsUnbroken}
use Rattle.pn_line.specs.Text.{text_of}
use Rattle.pn_join.specs.Marks.{Positions, name_cmp}
use Rattle.pn_record.specs.declared.records.Image.{Image}
use Rattle.pn_record.specs.Showing.{holds_number}
use Rattle.pn_record.specs.Marks.{is_mark}
use Rattle.pn_record.specs.Reading.{IsLine, IsImage}
use Rattle.pn_record.specs.Cells.{table_of}
use Rattle.pn_record.specs.Sets.{bytes_cmp, version_cmp, content_cmp}
use Rattle.pn_tablet.specs.declared.copy.Form.{Form}
use Rattle.pn_tablet.specs.declared.copy.Form.TheVariants.{Texts, Numbers}
use Rattle.pn_tablet.specs.Layouts.{Ends, are_ends, is_end, key_data, in_range}
use Rattle.pn_tablet.specs.declared.copy_line.CopyLine.{CopyLine}
use Rattle.pn_tablet.specs.declared.copy_line.CopyLine.TheVariants.{Mark, Record, End}
use Rattle.pn_tablet.specs.Copies.{TabletCopyValue}
use Rattle.pn_tablet.specs.declared.fault.CopyTextFault.{CopyTextFault}
use Rattle.pn_tablet.specs.declared.fault.CopyTextFault.TheVariants.{Memory}

-- The forms of copies.

-- the number of a form
abbrev pub form_number : Form → ℕ
form_number Texts = 1
form_number Numbers = 2

-- the form of a number, if it has one
abbrev pub form_at : ℕ → Option Form
form_at n = if n == 1 then Some Texts else (if n == 2 then Some Numbers else None)

-- an image with a number may stand in copies of form 2 alone
abbrev pub may_hold : Form → Image → Bool
may_hold Texts image = not (holds_number image.content)
may_hold Numbers image = true

-- the form that is written: 2 where one of the images holds a number
abbrev pub form_of : List Image → Form
form_of images = if list_any (λ image. holds_number image.content) images then Numbers else Texts

-- The lines of a copy's text, and the JSON of each.

-- what a head says: the form of the copy, and its range
abbrev pub Head : Type 0
Head = Form × Ends

-- the JSON of a head: a number, and two ends
abbrev pub head_with : ℕ → Data → Data → Data
head_with n from to = object (member (codes "copy") (number (unsigned n)) (member (codes "from") from (member (codes "to") to no_members)))

-- the JSON of the head of a form and a range
abbrev pub head_data : Head → Data
head_data head = head_with (form_number head.0) (key_data head.1.0) (key_data head.1.1)

-- a mark: a stream, and the last position taken from it
abbrev pub mark_data : List ℕ × ℕ → Data
mark_data mark = object (member (codes "at") (number (unsigned mark.1)) (member (codes "stream") (string mark.0) no_members))

-- the end: the number of marks and images before it
abbrev pub end_data : ℕ → Data
end_data count = object (member (codes "end") (number (unsigned count)) no_members)

-- the ends are keys or open, and the first is less where both are keys
abbrev pub is_range : Ends → Bool
is_range range = is_end range.0 && is_end range.1 && are_ends range

-- the value is the JSON of the head of a copy of this form and range
pub record IsHead (d : Data) (head : Head) : Type 0 where
  pub value : d ≡ head_data head
  pub limits : IsTrue (is_range head.1)

-- the value is the JSON of this mark, image or end; the image may stand in a copy of the form
abbrev pub IsValue : Form → Data → CopyLine → Type 0
IsValue form d (Mark name position) = (d ≡ mark_data (name, position)) × IsTrue (is_mark (name, position))
IsValue form d (Record image) = IsImage d image × IsTrue (may_hold form image)
IsValue form d (End count) = d ≡ end_data count

-- the lines are those of these marks, images and ends, one by one
abbrev pub AreLines : Form → List (List ℕ) → List CopyLine → Type 0
AreLines form [] [] = Unit {0}
AreLines form (line ∷ lines) (says ∷ more) = IsLine (IsValue form) line says × AreLines form lines more
AreLines form [] (says ∷ more) = ⊥
AreLines form (line ∷ lines) [] = ⊥

-- The text of a copy: its head, its marks, the images of its cells, and its end.

-- the next image has a greater key, or the same key and version and a greater content
abbrev pub comes_after : Image → Image → Bool
comes_after image next =
    is_lt (bytes_cmp image.key next.key)
    || (eq_by_cmp bytes_cmp image.key next.key && (eq_by_cmp version_cmp image.version next.version && is_lt (content_cmp image.content next.content)))

-- each image comes after the one before it
abbrev pub images_rise : List Image → Bool
images_rise [] = true
images_rise (image ∷ []) = true
images_rise (image ∷ next ∷ images) = comes_after image next && images_rise (next ∷ images)

-- the line of a mark
abbrev pub mark_line : List ℕ × ℕ → CopyLine
mark_line mark = Mark mark.0 mark.1

-- the lines after the head: the marks, the images, and the number of both
abbrev pub lines_after_head : Positions → List Image → List CopyLine
lines_after_head marks images = map mark_line marks ++ (map Record images ++ End (length marks + length images) ∷ [])

-- the text spells the copy in a form: a head, marks whose names rise, images that rise and whose keys lie in the range, and an end
pub record IsCopyText (text : List ℕ) (copy : TabletCopyValue) : Type 0 where
  pub form : Form
  pub head : List ℕ
  pub lines : List (List ℕ)
  pub images : List Image
  pub text_is : text ≡ text_of (head ∷ lines)
  pub unbroken : All IsUnbroken (head ∷ lines)
  pub head_is : IsLine IsHead head (form, copy.range)
  pub lines_are : AreLines form lines (lines_after_head copy.marks images)
  pub names_rise : IsTrue (is_sorted name_cmp copy.marks)
  pub images_rise : IsTrue (images_rise images)
  pub inside : IsTrue (list_all (λ image. in_range copy.range image.key) images)
  pub cells : copy.cells ≡ table_of images

-- How far a text goes on as a copy's text.

-- the lines begin a copy of the form: a head, marks whose names rise, and then images that rise and whose keys lie in the range
pub record Begin (lines : List (List ℕ)) (form : Form) (range : Ends) (marks : Positions) (images : List Image) : Type 0 where
  pub head : List ℕ
  pub later : List (List ℕ)
  pub lines_are : lines ≡ head ∷ later
  pub head_is : IsLine IsHead head (form, range)
  pub later_are : AreLines form later (map mark_line marks ++ map Record images)
  pub names_rise : IsTrue (is_sorted name_cmp marks)
  pub images_rise : IsTrue (images_rise images)
  pub inside : IsTrue (list_all (λ image. in_range range image.key) images)

-- the text is whole lines, then this line, then a rest
pub record IsCut (text : List ℕ) (lines : List (List ℕ)) (line rest : List ℕ) : Type 0 where
  pub text_is : text ≡ text_of (lines ++ line ∷ []) ++ rest
  pub unbroken : All IsUnbroken (lines ++ line ∷ [])

-- the lines before line n begin a copy
pub record Reaches (text : List ℕ) (n : ℕ) : Type 0 where
  pub lines : List (List ℕ)
  pub line : List ℕ
  pub rest : List ℕ
  pub cut : IsCut text lines line rest
  pub number : n ≡ length lines + 1
  pub form : Form
  pub range : Ends
  pub marks : Positions
  pub images : List Image
  pub begin : Begin lines form range marks images

-- The fault of a text that spells no copy: that of the first line with which it no longer begins one.

-- the fault says that memory ran out
abbrev pub is_memory : CopyTextFault → Bool
is_memory Memory = true
is_memory _ = false

-- Truncated: the text ends in a line without newline, and the lines before it begin a copy, if there are any
pub record IsCutOff (text : List ℕ) : Type 0 where
  pub lines : List (List ℕ)
  pub part : List ℕ
  pub text_is : text ≡ text_of lines ++ part
  pub unbroken : All IsUnbroken lines × IsUnbroken part
  pub begin : (lines ≡ []) ⊎ ((form : Form) × (range : Ends) × (marks : Positions) × (images : List Image) × Begin lines form range marks images)

-- the first line is no head
abbrev pub HasNoHead : List ℕ → Type 0
HasNoHead text = (line : List ℕ) × (rest : List ℕ) × IsCut text [] line rest × ((head : Head) → ¬ IsLine IsHead line head)

-- a mark may come before all images; an image and an end may always come
abbrev pub MayCome : List Image → CopyLine → Type 0
MayCome images (Mark name position) = images ≡ []
MayCome images (Record image) = Unit {0}
MayCome images (End count) = Unit {0}

-- BadLine: line n is the first one and no head, or a later one and no mark, image or end that may come there
abbrev pub HasBadLine : List ℕ → ℕ → Type 0
HasBadLine text n = ((n ≡ 1) × HasNoHead text) ⊎ ((at : Reaches text n) × ((says : CopyLine) → IsLine (IsValue at.form) at.line says → ¬ MayCome at.images says))

-- OutsideRange: line n is an image, whose key is outside of the range
abbrev pub LeavesRange : List ℕ → ℕ → Type 0
LeavesRange text n = (at : Reaches text n) × (image : Image) × IsLine (IsValue at.form) at.line (Record image) × (in_range at.range image.key ≡ false)

-- with this line, the names of the marks no longer rise, or the images of the range no longer do
abbrev pub Falls : Ends → Positions → List Image → CopyLine → Type 0
Falls range marks images (Mark name position) = (images ≡ []) × (is_sorted name_cmp (marks ++ (name, position) ∷ []) ≡ false)
Falls range marks images (Record image) = IsTrue (in_range range image.key) × (images_rise (images ++ image ∷ []) ≡ false)
Falls range marks images (End count) = ⊥

-- NotRising: with line n the marks or the images no longer rise
abbrev pub HasFall : List ℕ → ℕ → Type 0
HasFall text n = (at : Reaches text n) × (says : CopyLine) × IsLine (IsValue at.form) at.line says × Falls at.range at.marks at.images says

-- BadEnd: a line is an end, which does not count the marks and images before it, or after which something follows
abbrev pub HasBadEnd : List ℕ → Type 0
HasBadEnd text = (n : ℕ) × (at : Reaches text n) × (count : ℕ) × IsLine (IsValue at.form) at.line (End count) × ¬ ((count ≡ length at.marks + length at.images) × (at.rest ≡ []))

-- How many lines the spellings of a copy have, and which lines stand in copies of which form.
use Rattle.std.proofs.Common.{◌≡◌, ℕ, suc, List, [], ◌∷◌, ◌++◌, length, All, refl, sym, ap, ◌∙◌, append-nil, arith, length-append, Bool, true, false, not, cond, ◌&&◌, ◌||◌, map, IsTrue}
use Rattle.std.proofs.lemmas.List.Elements.{All-head, All-tail, All-cons}
use Rattle.std.proofs.lemmas.Bool.{and_parts}
use Rattle.std.proofs.lemmas.List.Folds.{list_any-append}
use Rattle.std.specs.FinMap.{keys}
use Rattle.std.specs.List.{list_all, list_any, AllByRecursion}
use Rattle.pn_line.specs.Line.{IsUnbroken}
use Rattle.pn_line.specs.Text.{lines_of, text_of}
use Rattle.pn_line.proofs.TextLaws.{lines_of-nil, lines_of-text}
use Rattle.pn_join.specs.Marks.{Positions}
use Rattle.pn_record.specs.Cells.{spell, spell_cell, Entries}
use Rattle.pn_record.specs.declared.records.Image.{Image}
use Rattle.pn_record.specs.Limits.{ContentValue}
use Rattle.pn_record.specs.Showing.{holds_number}
use Rattle.pn_record.specs.Reading.{IsLine}
use Rattle.pn_record.specs.Sets.{Stamp, CellValue}
use Rattle.pn_tablet.specs.Copies.{TabletCopyValue}
use Rattle.pn_tablet.specs.CopyTexts.{AreLines, IsValue, lines_after_head, IsCopyText, mark_line, may_hold, form_of}
use Rattle.pn_tablet.specs.declared.copy.Form.{Form}
use Rattle.pn_tablet.specs.declared.copy_line.CopyLine.{CopyLine}
use Rattle.pn_tablet.proofs.SpelledImages.{spelled_again}
use Rattle.pn_tablet.specs.declared.copy.Form.TheVariants.{Texts, Numbers}
use Rattle.pn_tablet.specs.declared.copy_line.CopyLine.TheVariants.{Mark, Record, End}

-- How many lines the spellings of a copy have.

-- the lines of lines
pub lines_again : (lines : List (List ℕ)) → All IsUnbroken lines → lines_of (text_of lines) ≡ lines
lines_again lines unbroken = ap lines_of (sym (append-nil (text_of lines))) ∙ lines_of-text lines [] unbroken ∙ ap (λ rest. lines ++ rest) lines_of-nil ∙ append-nil lines

pub as_many : (form : Form) (lines : List (List ℕ)) (says : List CopyLine) → AreLines form lines says → length lines ≡ length says
as_many form [] [] are = refl
as_many form [] (line ∷ says) are = absurd are
as_many form (line ∷ lines) [] are = absurd are
as_many form (line ∷ lines) (first ∷ says) are = ap suc (as_many form lines says are.1)

-- the lines of a copy's text are its head and the lines after it
pub same_lines : (lines : List (List ℕ)) (copy : TabletCopyValue) → All IsUnbroken lines → (is : IsCopyText (text_of lines) copy) → lines ≡ is.head ∷ is.lines
same_lines lines copy unbroken is = sym (lines_again lines unbroken) ∙ ap lines_of is.text_is ∙ lines_again (is.head ∷ is.lines) is.unbroken

-- a line for each mark and each image, and two more
lines_counted : (lines : List (List ℕ)) (copy : TabletCopyValue) → All IsUnbroken lines → IsCopyText (text_of lines) copy → length lines ≡ suc (length (lines_after_head copy.marks (spell copy.cells)))
lines_counted lines copy unbroken is =
    let images = sym (spelled_again is.images is.images_rise) ∙ ap spell (sym is.cells) in
    ap length (same_lines lines copy unbroken is) ∙ ap suc (as_many is.form is.lines (lines_after_head copy.marks is.images) is.lines_are ∙ ap (λ images. length (lines_after_head copy.marks images)) images)

pub same_count : (one other : List (List ℕ)) (copy : TabletCopyValue) → All IsUnbroken one → All IsUnbroken other → IsCopyText (text_of one) copy → IsCopyText (text_of other) copy → length one ≡ length other
same_count one other copy one_lines other_lines first second = lines_counted one copy one_lines first ∙ sym (lines_counted other copy other_lines second)

without : (before after : List (List ℕ)) (line : List ℕ) → All IsUnbroken (before ++ line ∷ after) → All IsUnbroken (before ++ after)
without [] after line unbroken = All-tail IsUnbroken line after unbroken
without (first ∷ before) after line unbroken =
    All-cons IsUnbroken first (before ++ after) (All-head IsUnbroken first (before ++ line ∷ after) unbroken) (without before after line (All-tail IsUnbroken first (before ++ line ∷ after) unbroken))

doubled : (before after : List (List ℕ)) (line : List ℕ) → All IsUnbroken (before ++ line ∷ after) → All IsUnbroken (before ++ line ∷ line ∷ after)
doubled [] after line unbroken = All-cons IsUnbroken line (line ∷ after) (All-head IsUnbroken line after unbroken) unbroken
doubled (first ∷ before) after line unbroken =
    All-cons IsUnbroken first (before ++ line ∷ line ∷ after) (All-head IsUnbroken first (before ++ line ∷ after) unbroken) (doubled before after line (All-tail IsUnbroken first (before ++ line ∷ after) unbroken))

pub none_dropped : (before after : List (List ℕ)) (line : List ℕ) (copy : TabletCopyValue) → All IsUnbroken (before ++ line ∷ after) → IsCopyText (text_of (before ++ line ∷ after)) copy → IsCopyText (text_of (before ++ after)) copy → ⊥
none_dropped before after line copy unbroken is without_it =
    let same = same_count (before ++ line ∷ after) (before ++ after) copy unbroken (without before after line unbroken) is without_it in
    omega (arith, same, length-append before (line ∷ after), length-append before after)

pub none_doubled : (before after : List (List ℕ)) (line : List ℕ) (copy : TabletCopyValue) → All IsUnbroken (before ++ line ∷ after) → IsCopyText (text_of (before ++ line ∷ after)) copy → IsCopyText (text_of (before ++ line ∷ line ∷ after)) copy → ⊥
none_doubled before after line copy unbroken is with_it =
    let same = same_count (before ++ line ∷ after) (before ++ line ∷ line ∷ after) copy unbroken (doubled before after line unbroken) is with_it in
    omega (arith, same, length-append before (line ∷ after), length-append before (line ∷ line ∷ after))

-- Which lines stand in copies of which form.

-- the image of a line may stand in a copy of the form, if it has one
abbrev pub Held : Form → CopyLine → Type 0
Held form (Mark name position) = Unit {0}
Held form (Record image) = IsTrue (may_hold form image)
Held form (End count) = Unit {0}

line_in : (form other : Form) (line : List ℕ) (says : CopyLine) → IsLine (IsValue form) line says → Held other says → IsLine (IsValue other) line says
line_in form other line (Mark name position) is held = record { short = is.short; value = is.value; read = is.read; spelled = is.spelled }
line_in form other line (Record image) is held = record { short = is.short; value = is.value; read = is.read; spelled = (is.spelled.0, held) }
line_in form other line (End count) is held = record { short = is.short; value = is.value; read = is.read; spelled = is.spelled }

-- lines of one form are lines of another in which all images may stand
pub lines_in : (form other : Form) (lines : List (List ℕ)) (says : List CopyLine) → AreLines form lines says → AllByRecursion (Held other) says → AreLines other lines says
lines_in form other [] [] are held = tt
lines_in form other [] (first ∷ says) are held = absurd are
lines_in form other (line ∷ lines) [] are held = absurd are
lines_in form other (line ∷ lines) (first ∷ says) are held = (line_in form other line first are.0 held.0, lines_in form other lines says are.1 held.1)

-- all may stand in form 2
pub held_all : (says : List CopyLine) → AllByRecursion (Held Numbers) says
held_all [] = tt
held_all (Mark name position ∷ says) = (tt, held_all says)
held_all (Record image ∷ says) = (refl, held_all says)
held_all (End count ∷ says) = (tt, held_all says)

-- ---- in the form that is written

abbrev pub holds : Image → Bool
holds image = holds_number image.content

numbers_hold : (images : List Image) → list_all (may_hold Numbers) images ≡ true
numbers_hold [] = refl
numbers_hold (image ∷ images) = numbers_hold images

texts_hold : (images : List Image) → list_any holds images ≡ false → list_all (may_hold Texts) images ≡ true
texts_hold [] none = refl
texts_hold (image ∷ images) none = not_either (holds image) (list_any holds images) (list_all (may_hold Texts) images) none (texts_hold images)
  where
    not_either : (a b rest : Bool) → (a || b) ≡ false → (b ≡ false → rest ≡ true) → (not a && rest) ≡ true
    not_either true b rest none later = absurd (cc)
    not_either false b rest none later = later none

form_holds : (images : List Image) → list_all (may_hold (form_of images)) images ≡ true
form_holds images = by_case (list_any holds images) refl
  where
    by_case : (some : Bool) → list_any holds images ≡ some → list_all (may_hold (cond some Numbers Texts)) images ≡ true
    by_case true is = numbers_hold images
    by_case false is = texts_hold images is

held_images : (form : Form) (images : List Image) (count : ℕ) → list_all (may_hold form) images ≡ true → AllByRecursion (Held form) (map Record images ++ End count ∷ [])
held_images form [] count all = (tt, tt)
held_images form (image ∷ images) count all =
    let parts = and_parts (may_hold form image) (list_all (may_hold form) images) all in
    (parts.0, held_images form images count parts.1)

held_lines : (form : Form) (marks : Positions) (images : List Image) (count : ℕ) → list_all (may_hold form) images ≡ true → AllByRecursion (Held form) (map mark_line marks ++ (map Record images ++ End count ∷ []))
held_lines form [] images count all = held_images form images count all
held_lines form (mark ∷ marks) images count all = (tt, held_lines form marks images count all)

-- the lines of a copy may stand in the form that is written
pub held_written : (marks : Positions) (images : List Image) → AllByRecursion (Held (form_of images)) (lines_after_head marks images)
held_written marks images = held_lines (form_of images) marks images _ (form_holds images)

-- ---- the form of cells

one_cell : (key : List ℕ) (version : Stamp) (contents : List ContentValue)
    → list_any holds (map (λ (shown : ContentValue). record { key = key; version = version; content = shown }) contents) ≡ list_any holds_number contents
one_cell key version [] = refl
one_cell key version (shown ∷ contents) = ap (λ b. holds_number shown || b) (one_cell key version contents)

-- a number is in a cell, or in those after it
pub cell_holds : (e : List ℕ × CellValue) (es : Entries) → list_any holds (spell (e ∷ es)) ≡ (list_any holds_number (keys e.1.1) || list_any holds (spell es))
cell_holds e es = list_any-append holds (spell_cell e) (spell es) ∙ ap (λ b. b || list_any holds (spell es)) (one_cell e.0 e.1.0 (keys e.1.1))

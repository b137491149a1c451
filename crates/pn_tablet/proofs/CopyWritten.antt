-- What was written of a copy spells it.
use Rattle.std.proofs.Common.{◌≡◌, ℕ, ◌+◌, ◌<◌, ◌≤◌, ◌^◌, Bool, true, false, cond, ◌&&◌, List, [], ◌∷◌, ◌++◌, map, length, All, Option, Some, None, IsTrue, IsUtf8, refl, sym, ap, ◌∙◌, subst, append_assoc, append-nil, arith, length-append, take, get_or}
use Rattle.std.proofs.lemmas.Bool.{and_from}
use Rattle.std.proofs.lemmas.Grind.{flat_map-append}
use Rattle.std.proofs.lemmas.List.{map_more, map-append, length-map}
use Rattle.std.proofs.lemmas.List.Elements.{All-nil, All-cons}
use Rattle.std.proofs.lemmas.Str.{IsUtf8-append, IsUtf8-from_ascii, IsUtf8-from_is_utf8, IsUtf8-nil}
use Rattle.std.proofs.lemmas.Str.Ascii.{IsAscii-cons, IsAscii-nil}
use Rattle.std.specs.Str.{is_utf8}
use Rattle.std.specs.FinMap.{is_sorted, keys}
use Rattle.std.specs.List.{list_all, AllByRecursion}
use Rattle.serde_json.specs.Data.{Data, depth}
use Rattle.serde_json.specs.Read.{read}
use Rattle.serde_json.specs.Written.{compact_text}
use Rattle.json.specs.Written.{Written}
use Rattle.pn_json.specs.Tokens.{Appends, value_tokens}
use Rattle.pn_join.specs.Marks.{Positions, is_position, name_cmp}
use Rattle.pn_join.specs.Naming.{is_name}
use Rattle.pn_line.specs.Line.{IsUnbroken}
use Rattle.pn_line.specs.Text.{text_of}
use Rattle.pn_record.specs.declared.records.Image.{Image}
use Rattle.pn_record.specs.Reading.{is_image, reading}
use Rattle.pn_record.specs.Cells.{spell, spell_cell, Entries, table_of}
use Rattle.pn_record.specs.Limits.{ContentValue}
use Rattle.pn_record.specs.Sets.{Stamp, CellValue, HasContents, bytes_cmp}
use Rattle.pn_join.specs.Tables.{IsTable}
use Rattle.pn_record.specs.Marks.{is_mark}
use Rattle.pn_record.specs.Writing.{image_data}
use Rattle.pn_record.proofs.ImageText.{depth-image_data, length-image_data}
use Rattle.pn_tablet.specs.Copies.{TabletCopyValue}
use Rattle.pn_tablet.specs.CopyTexts.{Head, head_data, mark_data, end_data, is_range, IsHead, IsValue, AreLines, images_rise, mark_line, lines_after_head, IsCopyText, form_of}
use Rattle.pn_tablet.specs.Layouts.{is_end, Ends, in_range, are_ends}
use Rattle.pn_tablet.specs.CopyWriting.{line_data, line_text, lines_text, copy_text, IsReadAgain, WritesValue, IsWritten, IsWrittenLine, WritesLines}
use Rattle.pn_tablet.specs.declared.copy.Form.{Form}
use Rattle.pn_tablet.specs.declared.copy.Form.TheVariants.{Numbers}
use Rattle.pn_tablet.specs.declared.copy_line.CopyLine.{CopyLine}
use Rattle.pn_tablet.specs.declared.copy_line.CopyLine.TheVariants.{Mark, Record, End}
use Rattle.pn_tablet.specs.Tablets.{lie_in}
use Rattle.pn_tablet.proofs.CopyLineCounts.{lines_in, held_written}
use Rattle.pn_tablet.proofs.SpelledImages.{spelled_own, spell_inside, spell_rises}
use Rattle.pn_tablet.proofs.CopyValueTexts.{image_again, mark_again, end_again, head_again}
use Rattle.pn_tablet.proofs.CopyLineTexts.{text-unbroken, below_mark, short_end, short_mark, short_head}

written : {A : Type 0} (IsSpelled : Data → A → Type 0) (d : Data) (meant : A) → reading (compact_text d) ≡ Some d → length (compact_text d) ≤ 65536 → IsSpelled d meant → IsWritten IsSpelled d meant
written IsSpelled d meant read short is = record { line = record { short = short; value = d; read = read; spelled = is }; unbroken = text-unbroken d }

utf8_from : (b : Bool) (text : List ℕ) (d : Data) → cond b (read text) None ≡ Some d → b ≡ true
utf8_from true text d is = refl
utf8_from false text d is = absurd (cc)

-- what is read as a value is UTF-8
read_utf8 : (text : List ℕ) (d : Data) → reading text ≡ Some d → IsUtf8 text
unfolding reading
read_utf8 text d is = IsUtf8-from_is_utf8 text (utf8_from (is_utf8 text) text d is)

-- ---- one line

one_line : (old new : List ℕ) (says : CopyLine) → IsReadAgain (line_data says) → depth (line_data says) ≤ 127
    → (reading (compact_text (line_data says)) ≡ Some (line_data says) → IsWrittenLine says) → WritesValue old new (line_data says) → WritesLines old new (says ∷ [])
one_line old new says again shallow good wrote =
    (wrote.0 ∙ ap (λ l. old ++ l) (sym (append-nil (line_text (line_data says)))), (good (wrote.1 again shallow), tt))

pub mark_written : (old new name : List ℕ) (position : ℕ) → is_name name ≡ true → is_position position ≡ true → WritesValue old new (mark_data (name, position)) → WritesLines old new (Mark name position ∷ [])
mark_written old new name position named within =
    let fits : is_mark (name, position) ≡ true = and_from (is_name name) (is_position position) named within in
    let small = below_mark name position fits in
    one_line old new (Mark name position) (mark_again name position small) (omega arith) (λ read. written (IsValue Numbers) (mark_data (name, position)) (Mark name position) read (omega (arith, short_mark name position named small)) (refl, fits))

pub image_written : (old new : List ℕ) (image : Image) → is_image image ≡ true → WritesValue old new (image_data image) → WritesLines old new (Record image ∷ [])
image_written old new image fits =
    one_line old new (Record image) (image_again image fits) (depth-image_data image) (λ read.
    written (IsValue Numbers) (image_data image) (Record image) read (omega (arith, length-image_data image fits)) (record { value = refl; limits = fits }, refl))

pub end_written : (old new : List ℕ) (count : ℕ) → count < 2 ^ 64 → WritesValue old new (end_data count) → WritesLines old new (End count ∷ [])
end_written old new count small =
    one_line old new (End count) (end_again count small) (omega arith) (λ read. written (IsValue Numbers) (end_data count) (End count) read (omega (arith, short_end count small)) refl)

shallow_head : (form : Form) (from to : Option (List ℕ)) → depth (head_data (form, (from, to))) ≤ 127
shallow_head form None None = omega arith
shallow_head form None (Some to) = omega arith
shallow_head form (Some from) None = omega arith
shallow_head form (Some from) (Some to) = omega arith

pub head_written : (old new : List ℕ) (form : Form) (range : Ends) → is_end range.0 ≡ true → is_end range.1 ≡ true → are_ends range ≡ true → WritesValue old new (head_data (form, range)) → IsWritten IsHead (head_data (form, range)) (form, range)
head_written old new form range from to order wrote =
    let fits : is_range range ≡ true = and_from (is_end range.0 && is_end range.1) (are_ends range) (and_from (is_end range.0) (is_end range.1) from to) order in
    written IsHead (head_data (form, range)) (form, range) (wrote.1 (head_again form range.0 range.1) (shallow_head form range.0 range.1)) (omega (arith, short_head form range.0 range.1 from to)) (record { value = refl; limits = fits })

-- the value that a writer wrote after a text, and its newline, are its line
pub line_from : {old new : Written} (text out : List ℕ) (d : Data) → old.before ≡ text → old.tokens ≡ [] → Appends old new (value_tokens d)
    → ((value : Data) → new.tokens ≡ value_tokens value → WritesValue new.before out value) → WritesValue text out d
line_from {old} {new} text out d before none appended line =
    subst (λ t. WritesValue t out d) (appended.before ∙ before) (line d (appended.tokens ∙ ap (λ ts. ts ++ value_tokens d) none))

-- ---- many lines

pub lines_none : (old : List ℕ) → WritesLines old old []
lines_none old = (sym (append-nil old), tt)

all_both : (says more : List CopyLine) → AllByRecursion IsWrittenLine says → AllByRecursion IsWrittenLine more → AllByRecursion IsWrittenLine (says ++ more)
all_both [] more first second = second
all_both (line ∷ says) more first second = (first.0, all_both says more first.1 second)

-- some lines and then others
pub lines_then : (a b c : List ℕ) (says more : List CopyLine) → WritesLines a b says → WritesLines b c more → WritesLines a c (says ++ more)
lines_then a b c says more first second = (
  second.0 ∙ ap (λ t. t ++ lines_text more) first.0 ∙ append_assoc a (lines_text says) (lines_text more)
      ∙ ap (λ t. a ++ t) (sym (flat_map-append (λ line. line_text (line_data line)) says more)),
  all_both says more first.1 second.1,
)

length_line : (d : Data) → 1 ≤ length (line_text d)
length_line d = omega (arith, length-append (compact_text d) (10 ∷ []))

-- each line has a byte at least
pub lines_room : (says : List CopyLine) → length says ≤ length (lines_text says)
lines_room [] = omega arith
lines_room (line ∷ says) = omega (arith, length-append (line_text (line_data line)) (lines_text says), length_line (line_data line), lines_room says)

-- ---- the whole text

abbrev pub texts : List CopyLine → List (List ℕ)
texts says = map (λ line. compact_text (line_data line)) says

pub text_of-texts : (says : List CopyLine) → lines_text says ≡ text_of (texts says)
unfolding text_of
text_of-texts [] = refl
text_of-texts (line ∷ says) = append_assoc (compact_text (line_data line)) (10 ∷ []) (lines_text says) ∙ ap (λ t. compact_text (line_data line) ++ 10 ∷ t) (text_of-texts says)

unbroken-texts : (says : List CopyLine) → AllByRecursion IsWrittenLine says → All IsUnbroken (texts says)
unbroken-texts [] all = All-nil IsUnbroken
unbroken-texts (line ∷ says) all = All-cons IsUnbroken (compact_text (line_data line)) (texts says) all.0.unbroken (unbroken-texts says all.1)

are_lines-texts : (says : List CopyLine) → AllByRecursion IsWrittenLine says → AreLines Numbers (texts says) says
are_lines-texts [] all = tt
are_lines-texts (line ∷ says) all = (all.0.line, are_lines-texts says all.1)

pub head_first : (d : Data) (lines : List (List ℕ)) (rest : List ℕ) → rest ≡ text_of lines → line_text d ++ rest ≡ text_of (compact_text d ∷ lines)
unfolding text_of
head_first d lines rest is = append_assoc (compact_text d) (10 ∷ []) rest ∙ ap (λ t. compact_text d ++ 10 ∷ t) is

-- the head that is written
abbrev pub head_of : TabletCopyValue → Head
head_of copy = (form_of (spell copy.cells), copy.range)

-- lines that were all written spell the copy
pub copy_spelled : (copy : TabletCopyValue) → IsWritten IsHead (head_data (head_of copy)) (head_of copy) → AllByRecursion IsWrittenLine (lines_after_head copy.marks (spell copy.cells)) → IsTrue (is_sorted name_cmp copy.marks)
    → IsTrue (images_rise (spell copy.cells)) → IsTrue (list_all (λ (image : Image). in_range copy.range image.key) (spell copy.cells)) → copy.cells ≡ table_of (spell copy.cells) → IsCopyText (copy_text copy) copy
copy_spelled copy head all names rise inside cells =
    let says = lines_after_head copy.marks (spell copy.cells) in
    record {
      form = form_of (spell copy.cells);
      head = compact_text (head_data (head_of copy));
      lines = texts says;
      images = spell copy.cells;
      text_is = head_first (head_data (head_of copy)) (texts says) (lines_text says) (text_of-texts says);
      unbroken = All-cons IsUnbroken (compact_text (head_data (head_of copy))) (texts says) head.unbroken (unbroken-texts says all);
      head_is = head.line;
      lines_are = lines_in Numbers (form_of (spell copy.cells)) (texts says) says (are_lines-texts says all) (held_written copy.marks (spell copy.cells));
      names_rise = names;
      images_rise = rise;
      inside = inside;
      cells = cells;
    }

-- ---- the lines of a cell

-- one content more
pub one_line_more : (a b c : List ℕ) (f : ContentValue → CopyLine) (ys : List ContentValue) (i : ℕ) (y : ContentValue) → y ≡ get_or ys i y → i < length ys
    → WritesLines a b (map f (take i ys)) → WritesLines b c (f y ∷ []) → WritesLines a c (map f (take (i + 1) ys))
one_line_more a b c f ys i y here inside first second =
    subst (WritesLines a c) (ap (λ (z : ContentValue). map f (take i ys) ++ f z ∷ []) here ∙ sym (map_more f ys i y inside)) (lines_then a b c (map f (take i ys)) (f y ∷ []) first second)

pub cell_lines : (key : List ℕ) (version : Stamp) (contents : List ContentValue)
    → map (λ (shown : ContentValue). Record (record { key = key; version = version; content = shown })) contents ≡ map Record (map (λ (shown : ContentValue). record { key = key; version = version; content = shown }) contents)
cell_lines key version [] = refl
cell_lines key version (shown ∷ contents) = ap (λ rest. Record (record { key = key; version = version; content = shown }) ∷ rest) (cell_lines key version contents)

-- the lines of one cell before those of others
pub spelled_lines : (e : List ℕ × CellValue) (es : Entries) → map Record (spell (e ∷ es)) ≡ map Record (spell_cell e) ++ map Record (spell es)
spelled_lines e es = map-append Record (spell_cell e) (spell es)

-- and what is written of it comes before what is left
pub cell_then : (now new all : List ℕ) (e : List ℕ × CellValue) (es : Entries) → now ++ lines_text (map Record (spell (e ∷ es))) ≡ all → WritesLines now new (map Record (spell_cell e)) → new ++ lines_text (map Record (spell es)) ≡ all
cell_then now new all e es was wrote =
    ap (λ t. t ++ lines_text (map Record (spell es))) wrote.0 ∙ append_assoc now (lines_text (map Record (spell_cell e))) (lines_text (map Record (spell es)))
    ∙ ap (λ t. now ++ t) (sym (flat_map-append (λ line. line_text (line_data line)) (map Record (spell_cell e)) (map Record (spell es))) ∙ ap lines_text (sym (spelled_lines e es)))
    ∙ was

pub cell_all : (e : List ℕ × CellValue) (es : Entries) → AllByRecursion IsWrittenLine (map Record (spell_cell e)) → AllByRecursion IsWrittenLine (map Record (spell es)) → AllByRecursion IsWrittenLine (map Record (spell (e ∷ es)))
cell_all e es first rest = subst (AllByRecursion IsWrittenLine) (sym (spelled_lines e es)) (all_both (map Record (spell_cell e)) (map Record (spell es)) first rest)

abbrev cell_image : List ℕ × CellValue → ContentValue → Image
cell_image e shown = record { key = e.0; version = e.1.0; content = shown }

pub cell_count : (e : List ℕ × CellValue) (es : Entries) → length (spell (e ∷ es)) ≡ length (keys e.1.1) + length (spell es)
cell_count e es = length-append (spell_cell e) (spell es) ∙ ap (λ n. n + length (spell es)) (length-map (keys e.1.1) (λ (shown : ContentValue). cell_image e shown))

-- each content of a cell took a byte at least
pub cell_room : (now new : List ℕ) (e : List ℕ × CellValue) → WritesLines now new (map Record (spell_cell e)) → length now + length (keys e.1.1) ≤ length new
cell_room now new e wrote =
    let grown : length new ≡ length now + length (lines_text (map Record (spell_cell e))) = ap length wrote.0 ∙ length-append now (lines_text (map Record (spell_cell e))) in
    let lines : length (map Record (spell_cell e)) ≡ length (keys e.1.1) = length-map (spell_cell e) Record ∙ length-map (keys e.1.1) (λ (shown : ContentValue). cell_image e shown) in
    omega (arith, grown, lines, lines_room (map Record (spell_cell e)))

-- ---- the parts of the whole text

pub parts_written : (copy : TabletCopyValue) (a b c d : List ℕ) → a ≡ [] ++ line_text (head_data (head_of copy)) → WritesLines a b (map mark_line copy.marks) → WritesLines b c (map Record (spell copy.cells))
    → WritesLines c d (End (length copy.marks + length (spell copy.cells)) ∷ []) → (d ≡ copy_text copy) × AllByRecursion IsWrittenLine (lines_after_head copy.marks (spell copy.cells))
parts_written copy a b c d head marks images end =
    let all = lines_then a b d (map mark_line copy.marks) (map Record (spell copy.cells) ++ End (length copy.marks + length (spell copy.cells)) ∷ []) marks (lines_then b c d (map Record (spell copy.cells)) (End (length copy.marks + length (spell copy.cells)) ∷ []) images end) in
    (all.0 ∙ ap (λ t. t ++ lines_text (lines_after_head copy.marks (spell copy.cells))) head, all.1)

-- a text that was written so spells the copy
pub whole_spelled : (copy : TabletCopyValue) (text : List ℕ) → text ≡ copy_text copy → IsWritten IsHead (head_data (head_of copy)) (head_of copy) → AllByRecursion IsWrittenLine (lines_after_head copy.marks (spell copy.cells))
    → IsTrue (is_sorted name_cmp copy.marks) → IsTable bytes_cmp HasContents copy.cells → IsTrue (lie_in copy.range copy.cells) → IsCopyText text copy
whole_spelled copy text is head all names table inside =
    subst (λ (t : List ℕ). IsCopyText t copy) (sym is)
    (copy_spelled copy head all names (spell_rises copy.cells table.rising) (spell_inside copy.range copy.cells inside) (spelled_own copy.cells table))

-- each mark took a byte at least
pub marks_room : (now new : List ℕ) (marks : Positions) → WritesLines now new (map mark_line marks) → length marks ≤ length new
marks_room now new marks wrote =
    let grown : length new ≡ length now + length (lines_text (map mark_line marks)) = ap length wrote.0 ∙ length-append now (lines_text (map mark_line marks)) in
    omega (arith, grown, length-map marks mark_line, lines_room (map mark_line marks))

-- ---- the bytes are a text

line_utf8 : {A : Type 0} (IsSpelled : Data → A → Type 0) (d : Data) (meant : A) → IsWritten IsSpelled d meant → IsUtf8 (line_text d)
line_utf8 IsSpelled d meant is = IsUtf8-append (compact_text d) (10 ∷ []) (read_utf8 (compact_text d) is.line.value is.line.read) (IsUtf8-from_ascii (10 ∷ []) (IsAscii-cons 10 [] (omega arith) IsAscii-nil))

lines_utf8 : (says : List CopyLine) → AllByRecursion IsWrittenLine says → IsUtf8 (lines_text says)
lines_utf8 [] all = IsUtf8-nil
lines_utf8 (line ∷ says) all = IsUtf8-append (line_text (line_data line)) (lines_text says) (line_utf8 (IsValue Numbers) (line_data line) line all.0) (lines_utf8 says all.1)

-- a head and lines that were written are UTF-8
pub text_utf8 : (read : Head) (says : List CopyLine) → IsWritten IsHead (head_data read) read → AllByRecursion IsWrittenLine says → IsUtf8 (line_text (head_data read) ++ lines_text says)
text_utf8 read says head all = IsUtf8-append (line_text (head_data read)) (lines_text says) (line_utf8 IsHead (head_data read) read head) (lines_utf8 says all)

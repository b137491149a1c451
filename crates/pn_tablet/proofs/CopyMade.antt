-- The lines of a copy, made one at a time.
use Rattle.std.proofs.Common.{◌≡◌, ◌≢◌, ℕ, zero, suc, ◌+◌, ◌-◌, ◌<◌, ◌≤◌, inl, inr, Bool, true, false, cond, ltb, List, [], ◌∷◌, ◌++◌, map, length, drop, get_or, Option, Some, None, codes, decimal, refl, sym, ap, ◌∙◌, subst, append_assoc, arith, length-append}
use Rattle.std.specs.Prelude.{◌↔◌, IfSome, IsTrue, Vec}
use Rattle.std.specs.declared.alloc.Global.{Global}
use Rattle.std.specs.FinMap.{keys}
use Rattle.std.specs.List.{slice_get, AllByRecursion}
use Rattle.std.proofs.lemmas.Bool.{ltb-true, ltb-false}
use Rattle.json.specs.Print.{quoted}
use Rattle.serde_json.specs.Data.{Data}
use Rattle.serde_json.specs.Written.{compact_text}
use Rattle.serde_json.proofs.OnLiterals.{serde_json_on_literals}
use Rattle.pn_join.specs.Marks.{Positions}
use Rattle.pn_join.specs.Tables.{IsTable}
use Rattle.pn_json.specs.Tokens.{AppendsText, MakesPiece}
use Rattle.pn_json.proofs.AppendedTexts.{appended_none}
use Rattle.pn_record.specs.declared.records.Image.{Image as ImageValue}
use Rattle.pn_record.specs.Cells.{Entries, spell}
use Rattle.pn_record.specs.Limits.{ContentValue}
use Rattle.pn_record.specs.Sets.{bytes_cmp, CellValue, HasContents}
use Rattle.pn_record.specs.Writing.{image_data}
use Rattle.pn_tablet.specs.Copies.{TabletCopyValue}
use Rattle.pn_tablet.specs.CopyTexts.{head_data, mark_data, end_data, mark_line, lines_after_head, form_number, form_of}
use Rattle.pn_tablet.specs.CopyWriting.{IsCopyCursor, MakesLine, lines_of_copy, lines_between, copy_rest, line_data, line_text, lines_text}
use Rattle.pn_tablet.specs.Layouts.{key_data}
use Rattle.pn_tablet.specs.declared.copy_line.CopyLine.{CopyLine}
use Rattle.pn_tablet.specs.declared.copy_line.CopyLine.TheVariants.{Record, End}
use Rattle.pn_tablet.specs.declared.copy_line_writing.TheConstants.{MAX_COPY_LINE_BYTES}
use Rattle.pn_tablet.specs.declared.copy_text.CopyCursor.{CopyCursor}
use Rattle.pn_tablet.specs.declared.copy_text.CopyCursor.TheVariants.{Head, Mark, Image, Written}
use Rattle.pn_tablet.specs.declared.copy.Form.{Form}
use Rattle.pn_tablet.proofs.CopyCounted.{copy_lines, image_of}
use Rattle.pn_tablet.proofs.CopyWritten.{head_of}

-- ---- elements of lists

-- the element of an index is the first of the rest
pub drop_at : {X : Type 0} (xs : List X) (i : ℕ) (x : X) → slice_get xs i ≡ Some x → drop i xs ≡ x ∷ drop (i + 1) xs
drop_at {X} xs i x there = drop_suc xs i x there ∙ ap (λ (n : ℕ). x ∷ drop n xs) next
  where
    next : suc i ≡ i + 1
    next = omega arith

    drop_suc : (ys : List X) (k : ℕ) (y : X) → slice_get ys k ≡ Some y → drop k ys ≡ y ∷ drop (suc k) ys
    drop_suc [] k y there = absurd (cc)
    drop_suc (z ∷ ys) zero y there = cc
    drop_suc (z ∷ ys) (suc k) y there = drop_suc ys k y there

pub drop_past : {X : Type 0} (xs : List X) (i : ℕ) → slice_get xs i ≡ None → drop i xs ≡ []
drop_past [] zero there = refl
drop_past [] (suc i) there = refl
drop_past (x ∷ xs) zero there = absurd (cc)
drop_past (x ∷ xs) (suc i) there = drop_past xs i there

-- each cell of a table has a content
pub has_content : (cells : Entries) → AllByRecursion (λ (entry : List ℕ × CellValue). HasContents entry.1) cells → (i : ℕ) → IfSome (slice_get cells i) (λ entry. 0 < length (keys entry.1.1))
has_content [] all i = tt
has_content (entry ∷ cells) all zero = all.0
has_content (entry ∷ cells) all (suc i) = has_content cells all.1 i

-- ---- one line

pub mark_rest : (copy : TabletCopyValue) (index : ℕ) (mark : List ℕ × ℕ) → slice_get copy.marks index ≡ Some mark → copy_rest copy (Mark index) ≡ line_text (mark_data mark) ++ copy_rest copy (Mark (index + 1))
mark_rest copy index mark there =
    ap (λ (marks : Positions). lines_text (map mark_line marks ++ (map Record (spell copy.cells) ++ End (lines_between copy) ∷ []))) (drop_at copy.marks index mark there)

pub no_mark : (copy : TabletCopyValue) (index : ℕ) → slice_get copy.marks index ≡ None → copy_rest copy (Mark index) ≡ copy_rest copy (Image 0 0)
no_mark copy index none = ap (λ (marks : Positions). lines_text (map mark_line marks ++ (map Record (spell copy.cells) ++ End (lines_between copy) ∷ []))) (drop_past copy.marks index none)

pub no_image : (copy : TabletCopyValue) (index content : ℕ) → slice_get copy.cells index ≡ None → copy_rest copy (Image index content) ≡ line_text (end_data (lines_between copy)) ++ copy_rest copy Written
no_image copy index content none =
    ap (λ (cells : Entries). lines_text (map Record (drop content (spell cells)) ++ End (lines_between copy) ∷ [])) (drop_past copy.cells index none)
    ∙ ap (λ (images : List ImageValue). lines_text (map Record images ++ End (lines_between copy) ∷ [])) (drop_past [] content refl)

-- dropping within the first list
drop_within : {X Y : Type 0} (f : X → Y) (xs : List X) (n : ℕ) (x : X) (ys : List Y) → x ≡ get_or xs n x → n < length xs → drop n (map f xs ++ ys) ≡ f x ∷ drop (n + 1) (map f xs ++ ys)
drop_within {X} {Y} f xs n x ys here within = go xs n here within ∙ ap (λ (k : ℕ). f x ∷ drop k (map f xs ++ ys)) next
  where
    next : suc n ≡ n + 1
    next = omega arith

    go : (zs : List X) (k : ℕ) → x ≡ get_or zs k x → k < length zs → drop k (map f zs ++ ys) ≡ f x ∷ drop (suc k) (map f zs ++ ys)
    go [] k here within = absurd (omega (arith, within))
    go (z ∷ zs) zero here within = ap (λ (y : X). f y ∷ (map f zs ++ ys)) (sym here)
    go (z ∷ zs) (suc k) here within = go zs k here (omega (arith, within))

drop_whole : {X Y : Type 0} (f : X → Y) (xs : List X) (n : ℕ) (ys : List Y) → n ≡ length xs → drop n (map f xs ++ ys) ≡ ys
drop_whole f [] n ys is = ap (λ (k : ℕ). drop k ys) is
drop_whole f (x ∷ xs) zero ys is = absurd (omega (arith, is))
drop_whole f (x ∷ xs) (suc n) ys is = drop_whole f xs n ys (omega (arith, is))

-- the images from a record on
spelled_from : (cells : Entries) (index : ℕ) (entry : List ℕ × CellValue) → slice_get cells index ≡ Some entry → spell (drop index cells) ≡ map (image_of entry) (keys entry.1.1) ++ spell (drop (index + 1) cells)
spelled_from cells index entry there = ap spell (drop_at cells index entry there)

pub image_rest : (copy : TabletCopyValue) (index content : ℕ) (entry : List ℕ × CellValue) (shown : ContentValue) → slice_get copy.cells index ≡ Some entry → shown ≡ get_or (keys entry.1.1) content shown → content < length (keys entry.1.1)
    → copy_rest copy (Image index content) ≡ line_text (image_data (image_of entry shown)) ++ copy_rest copy (Image index (content + 1))
image_rest copy index content entry shown there here within =
    let rest = spelled_from copy.cells index entry there in
    let more = spell (drop (index + 1) copy.cells) in
    ap (λ (images : List ImageValue). lines_text (map Record images ++ End (lines_between copy) ∷ []))
    (ap (drop content) rest ∙ drop_within (image_of entry) (keys entry.1.1) content shown more here within ∙ ap (λ (images : List ImageValue). image_of entry shown ∷ drop (content + 1) images) (sym rest))

-- after the last content of a record comes the next record
pub next_record : (copy : TabletCopyValue) (index content : ℕ) (entry : List ℕ × CellValue) → slice_get copy.cells index ≡ Some entry → content ≡ length (keys entry.1.1) → copy_rest copy (Image index content) ≡ copy_rest copy (Image (index + 1) 0)
next_record copy index content entry there last =
    ap (λ (images : List ImageValue). lines_text (map Record images ++ End (lines_between copy) ∷ []))
    (ap (drop content) (spelled_from copy.cells index entry there) ∙ drop_whole (image_of entry) (keys entry.1.1) content (spell (drop (index + 1) copy.cells)) last)

length_lines : (says : List CopyLine) (n : ℕ) → 0 < length (lines_text (says ++ End n ∷ []))
length_lines [] n = omega (arith, length-append (line_text (end_data n)) [], length-append (compact_text (end_data n)) (10 ∷ []))
length_lines (line ∷ says) n = omega (arith, length-append (line_text (line_data line)) (lines_text (says ++ End n ∷ [])), length-append (compact_text (line_data line)) (10 ∷ []))

-- a cursor before the end has a line still to be made
pub rest_some : (copy : TabletCopyValue) (cursor : CopyCursor) → cursor ≢ Written → copy_rest copy cursor ≢ []
rest_some copy Head other none =
    let head = line_text (head_data (head_of copy)) in
    let says = lines_text (lines_after_head copy.marks (spell copy.cells)) in
    omega (arith, ap length none, length-append head says, length-append (compact_text (head_data (head_of copy))) (10 ∷ []))
rest_some copy (Mark index) other none =
    let before = map mark_line (drop index copy.marks) in
    let images = map Record (spell copy.cells) in
    let regrouped = append_assoc before images (End (lines_between copy) ∷ []) in
    omega (arith, ap length none, ap (λ (says : List CopyLine). length (lines_text says)) regrouped, length_lines (before ++ images) (lines_between copy))
rest_some copy (Image index content) other none =
    omega (arith, ap length none, length_lines (map Record (drop content (spell (drop index copy.cells)))) (lines_between copy))
rest_some copy Written other none = other refl

-- ---- the texts of lines

pub head_made : (n : ℕ) (from to : Option (List ℕ)) (form : Form) → n ≡ form_number form
    → codes "{\"copy\":" ++ (decimal n ++ (codes ",\"from\":" ++ (compact_text (key_data from) ++ (codes ",\"to\":" ++ (compact_text (key_data to) ++ codes "}"))))) ≡ compact_text (head_data (form, (from, to)))
unfolding serde_json_on_literals
head_made n from to form is =
    ap (λ (k : ℕ). codes "{\"copy\":" ++ (decimal k ++ (codes ",\"from\":" ++ (compact_text (key_data from) ++ (codes ",\"to\":" ++ (compact_text (key_data to) ++ codes "}")))))) is

pub mark_made : (name : List ℕ) (position : ℕ) → codes "{\"at\":" ++ (decimal position ++ (codes ",\"stream\":" ++ (quoted name ++ codes "}"))) ≡ compact_text (mark_data (name, position))
unfolding serde_json_on_literals
mark_made name position = refl

pub end_made : (count : ℕ) → codes "{\"end\":" ++ (decimal count ++ codes "}") ≡ compact_text (end_data count)
unfolding serde_json_on_literals
end_made count = refl

pub with_newline : (text : List ℕ) (n : ℕ) → length text ≤ n → length (text ++ 10 ∷ []) ≤ n + 1
with_newline text n short = omega (arith, length-append text (10 ∷ []))

-- ---- a line that was added

-- what holds of the element that there is
pub at_some : {X : Type 0} (P : X → Type 0) (o : Option X) (x : X) → o ≡ Some x → IfSome o P → P x
at_some {X} P o x there holds = subst (λ (p : Option X). IfSome p P) there holds

pub in_some : {X : Type 0} (P : X → Type 0) (o : Option X) (x : X) → o ≡ Some x → P x → IfSome o P
in_some {X} P o x there holds = subst (λ (p : Option X). IfSome p P) (sym there) holds

pub made_line : {copy : TabletCopyValue} {cursor next : CopyCursor} {old new : Vec ℕ Global} (d : Data) → AppendsText old new (line_text d) → length (line_text d) ≤ MAX_COPY_LINE_BYTES → copy_rest copy cursor ≡ line_text d ++ copy_rest copy next → IsCopyCursor copy next
    → MakesLine copy cursor old new next
made_line d appended short split next = record {
  line = record { piece = line_text d; appended = appended; split = split; short = short; some = inr (omega (arith, length-append (compact_text d) (10 ∷ []))) };
  cursor_is = next;
}

pub head_rest : (copy : TabletCopyValue) (form : Form) → form ≡ form_of (spell copy.cells) → copy_rest copy Head ≡ line_text (head_data (form, copy.range)) ++ copy_rest copy (Mark 0)
head_rest copy form is = ap (λ (f : Form). line_text (head_data (f, copy.range)) ++ lines_text (lines_after_head copy.marks (spell copy.cells))) (sym is)

pub same_line : {copy : TabletCopyValue} {cursor other next : CopyCursor} {old new : Vec ℕ Global} → copy_rest copy cursor ≡ copy_rest copy other → MakesLine copy other old new next → MakesLine copy cursor old new next
same_line {copy} {cursor} {other} {next} {old} {new} same made =
    record { line = subst (λ (left : List ℕ). MakesPiece MAX_COPY_LINE_BYTES left (copy_rest copy next) old new) (sym same) made.line; cursor_is = made.cursor_is }

pub none_left : (copy : TabletCopyValue) (v : Vec ℕ Global) → MakesLine copy Written v v Written
none_left copy v = record { line = record { piece = []; appended = appended_none v; split = refl; short = omega arith; some = inl refl }; cursor_is = tt }

pub first_content : (copy : TabletCopyValue) → IsTable bytes_cmp HasContents copy.cells → (index : ℕ) → IsCopyCursor copy (Image index 0)
first_content copy table index = has_content copy.cells table.contents index

-- the line of a mark
pub mark_next : (copy : TabletCopyValue) (index : ℕ) (name : List ℕ) (position p : ℕ) (old new : Vec ℕ Global) → Some (name, position) ≡ slice_get copy.marks index
    → AppendsText old new (line_text (mark_data (name, p))) → length (line_text (mark_data (name, p))) ≤ MAX_COPY_LINE_BYTES → p ≡ position → MakesLine copy (Mark index) old new (Mark (index + 1))
mark_next copy index name position p old new there appended short same =
    made_line (mark_data (name, p)) appended short (mark_rest copy index (name, position) (sym there) ∙ ap (λ (n : ℕ). line_text (mark_data (name, n)) ++ copy_rest copy (Mark (index + 1))) (sym same)) tt

-- the line of the end
pub end_next : (copy : TabletCopyValue) (index content lines count : ℕ) (old new : Vec ℕ Global) → None ≡ slice_get copy.cells index → lines ≡ lines_of_copy copy → count ≡ lines - 2
    → AppendsText old new (line_text (end_data count)) → length (line_text (end_data count)) ≤ MAX_COPY_LINE_BYTES → MakesLine copy (Image index content) old new Written
end_next copy index content lines count old new none are is appended short =
    let same : lines_between copy ≡ count = omega (arith, are, is, copy_lines copy) in
    made_line (end_data count) appended short (no_image copy index content (sym none) ∙ ap (λ (n : ℕ). line_text (end_data n) ++ copy_rest copy Written) same) tt

-- the line of an image, and the next cursor
pub image_next : (copy : TabletCopyValue) (index content count : ℕ) (entry : List ℕ × CellValue) (shown : ContentValue) (next : CopyCursor) (old new : Vec ℕ Global) → IsTable bytes_cmp HasContents copy.cells → Some entry ≡ slice_get copy.cells index
    → shown ≡ get_or (keys entry.1.1) content shown → content < length (keys entry.1.1) → AppendsText old new (line_text (image_data (record { key = entry.0; version = entry.1.0; content = shown })))
    → length (line_text (image_data (record { key = entry.0; version = entry.1.0; content = shown }))) ≤ MAX_COPY_LINE_BYTES → count ≡ length (keys entry.1.1)
    → next ≡ cond (ltb (content + 1) count) (Image index (content + 1)) (Image (index + 1) 0) → MakesLine copy (Image index content) old new next
image_next copy index content count entry shown next old new table there here within appended short counted is =
    subst (λ (cursor : CopyCursor). MakesLine copy (Image index content) old new cursor) (sym is) (by (ltb (content + 1) count) refl)
  where
    rest : copy_rest copy (Image index content) ≡ line_text (image_data (image_of entry shown)) ++ copy_rest copy (Image index (content + 1))
    rest = image_rest copy index content entry shown (sym there) here within

    by : (later : Bool) → ltb (content + 1) count ≡ later → MakesLine copy (Image index content) old new (cond later (Image index (content + 1)) (Image (index + 1) 0))
    by true test =
        made_line (image_data (image_of entry shown)) appended short rest
        (in_some (λ (e : List ℕ × CellValue). content + 1 < length (keys e.1.1)) (slice_get copy.cells index) entry (sym there) (omega (arith, ltb-true (content + 1) count test, counted)))
    by false test =
        let last : content + 1 ≡ length (keys entry.1.1) = omega (arith, ltb-false (content + 1) count test, counted, within) in
        made_line (image_data (image_of entry shown)) appended short
        (rest ∙ ap (λ (l : List ℕ). line_text (image_data (image_of entry shown)) ++ l) (next_record copy index (content + 1) entry (sym there) last)) (first_content copy table (index + 1))

-- ---- what is made

written_of : (copy : TabletCopyValue) (cursor : CopyCursor) → copy_rest copy cursor ≡ [] → cursor ≡ Written
written_of copy Head none = absurd (rest_some copy Head (λ e. cc) none)
written_of copy (Mark index) none = absurd (rest_some copy (Mark index) (λ e. cc) none)
written_of copy (Image index content) none = absurd (rest_some copy (Image index content) (λ e. cc) none)
written_of copy Written none = refl

-- nothing is left exactly after the last line
pub made_where : (copy : TabletCopyValue) (cursor : CopyCursor) (made : Bool) → (IsTrue made ↔ (cursor ≡ Written)) → (IsTrue made ↔ (copy_rest copy cursor ≡ []))
made_where copy cursor made is = (λ yes. ap (copy_rest copy) (is.0 yes), λ none. is.1 (written_of copy cursor none))

-- The lines of a copy, counted some records at a time.
use Rattle.std.proofs.Common.{◌≡◌, ℕ, zero, suc, ◌+◌, ◌-◌, ◌^◌, ◌<◌, ◌≤◌, Bool, true, false, cond, ◌||◌, List, [], ◌∷◌, ◌++◌, map, length, take, drop, All, refl, sym, ap, ◌∙◌, append-nil, arith, length-append}
use Rattle.std.specs.Prelude.{Result, Ok, Err, min}
use Rattle.std.specs.FinMap.{keys}
use Rattle.std.specs.List.{list_any, sum_by}
use Rattle.std.proofs.lemmas.Grind.{flat_map-append}
use Rattle.std.proofs.lemmas.List.{drop_all, length-map, take_all, take-append-drop}
use Rattle.std.proofs.lemmas.List.Elements.{All-nil, All-cons}
use Rattle.std.proofs.lemmas.List.Folds.{list_any-append}
use Rattle.std.proofs.lemmas.List.Sums.{sum_by-cons}
use Rattle.serde_json.specs.Written.{compact_text}
use Rattle.pn_line.specs.Line.{IsUnbroken}
use Rattle.pn_line.specs.Text.{lines_of}
use Rattle.pn_join.specs.declared.memory.NoMemory.{NoMemory}
use Rattle.pn_record.specs.declared.records.Image.{Image as ImageValue}
use Rattle.pn_record.specs.Cells.{Entries, spell, spell_cell}
use Rattle.pn_record.specs.Limits.{ContentValue}
use Rattle.pn_record.specs.Showing.{holds_number}
use Rattle.pn_record.specs.Sets.{CellValue}
use Rattle.pn_tablet.specs.Copies.{TabletCopyValue}
use Rattle.pn_tablet.specs.CopyTexts.{head_data, mark_line, lines_after_head, form_of}
use Rattle.pn_tablet.specs.CopyCounts.{CountsOn, CountsTo}
use Rattle.pn_tablet.specs.CopyWriting.{CopyCountValue, IsCountedIn, lines_of_copy, lines_between, line_data, lines_text, copy_text}
use Rattle.pn_tablet.specs.Tablets.{entries_weight, record_weight}
use Rattle.pn_tablet.specs.declared.copy_line.CopyLine.{CopyLine}
use Rattle.pn_tablet.specs.declared.copy_line.CopyLine.TheVariants.{Record, End}
use Rattle.pn_tablet.specs.declared.copy_count.CopyStep.{CopyStep}
use Rattle.pn_tablet.specs.declared.copy_count.CopyStep.TheVariants.{Done, Next}
use Rattle.pn_tablet.specs.declared.copy_count.LineCount.{LineCount}
use Rattle.pn_tablet.specs.declared.copy.Form.{Form}
use Rattle.pn_tablet.specs.declared.copy.Form.TheVariants.{Texts, Numbers}
use Rattle.pn_tablet.proofs.CopyLineCounts.{lines_again, holds, cell_holds}
use Rattle.pn_tablet.proofs.CopyLineTexts.{text-unbroken}
use Rattle.pn_tablet.proofs.CopyWritten.{head_of, texts, text_of-texts, head_first, cell_count}

-- ---- how many lines

texts-unbroken : (says : List CopyLine) → All IsUnbroken (texts says)
texts-unbroken [] = All-nil IsUnbroken
texts-unbroken (line ∷ says) = All-cons IsUnbroken (compact_text (line_data line)) (texts says) (text-unbroken (line_data line)) (texts-unbroken says)

-- the head, a line for each mark and each image, and the end
pub copy_lines : (copy : TabletCopyValue) → lines_of_copy copy ≡ 2 + lines_between copy
copy_lines copy =
    let says = lines_after_head copy.marks (spell copy.cells) in
    let head = compact_text (head_data (head_of copy)) in
    let whole = head_first (head_data (head_of copy)) (texts says) (lines_text says) (text_of-texts says) in
    let split : lines_of (copy_text copy) ≡ head ∷ texts says =
    ap lines_of whole ∙ lines_again (head ∷ texts says) (All-cons IsUnbroken head (texts says) (text-unbroken (head_data (head_of copy))) (texts-unbroken says)) in
    let last = map Record (spell copy.cells) ++ End (lines_between copy) ∷ [] in
    omega (
      arith,
      ap length split,
      length-map says (λ line. compact_text (line_data line)),
      length-append (map mark_line copy.marks) last,
      length-append (map Record (spell copy.cells)) (End (lines_between copy) ∷ []),
      length-map copy.marks mark_line,
      length-map (spell copy.cells) Record,
    )

-- ---- records

-- the image of a content
abbrev pub image_of : List ℕ × CellValue → ContentValue → ImageValue
image_of entry shown = record { key = entry.0; version = entry.1.0; content = shown }

drop_taken : {X : Type 0} (xs ys : List X) (n : ℕ) (x : X) → drop n xs ≡ x ∷ ys → (n < length xs) × (ys ≡ drop (suc n) xs) × (take (suc n) xs ≡ take n xs ++ x ∷ [])
drop_taken [] ys zero x is = absurd (cc)
drop_taken [] ys (suc n) x is = absurd (cc)
drop_taken (z ∷ xs) ys zero x is = (omega arith, cc, cc)
drop_taken {X = X} (z ∷ xs) ys (suc n) x is =
    let before = drop_taken xs ys n x is in
    (omega (arith, before.0), before.1, ap (λ (l : List X). z ∷ l) before.2)

-- one record more, which is the first of those that are left
pub one_more_record : {X : Type 0} (xs ys : List X) (n : ℕ) (x : X) → drop n xs ≡ x ∷ ys → (n < length xs) × (ys ≡ drop (n + 1) xs) × (take (n + 1) xs ≡ take n xs ++ x ∷ [])
one_more_record xs ys n x is =
    let next : suc n ≡ n + 1 = omega arith in
    let found = drop_taken xs ys n x is in
    (found.0, found.1 ∙ ap (λ (k : ℕ). drop k xs) next, ap (λ (k : ℕ). take k xs) (sym next) ∙ found.2)

spelled_more : (cells : Entries) (entry : List ℕ × CellValue) → spell (cells ++ entry ∷ []) ≡ spell cells ++ spell_cell entry
spelled_more cells entry = flat_map-append spell_cell cells (entry ∷ []) ∙ ap (λ (images : List ImageValue). spell cells ++ images) (append-nil (spell_cell entry))

form_more : (numbered some : Bool) → cond numbered Numbers (cond some Numbers Texts) ≡ cond (some || numbered) Numbers Texts
form_more true true = refl
form_more true false = refl
form_more false true = refl
form_more false false = refl

cell_numbered : (entry : List ℕ × CellValue) → list_any holds (spell_cell entry) ≡ list_any holds_number (keys entry.1.1)
cell_numbered entry =
    ap (list_any holds) (sym (append-nil (spell_cell entry))) ∙ cell_holds entry [] ∙ or_none (list_any holds_number (keys entry.1.1))
  where
    or_none : (b : Bool) → (b || false) ≡ b
    or_none true = refl
    or_none false = refl

-- a weight more, and what is left
weighed_on : (was more left now all : ℕ) → now ≡ min (was + more) (2 ^ 64 - 1) → min (was + (more + left)) (2 ^ 64 - 1) ≡ all → min (now + left) (2 ^ 64 - 1) ≡ all
weighed_on was more left now all is whole = omega (arith, is, whole)

pub counted_more : (cells rest : Entries) (entry : List ℕ × CellValue) (was now : LineCount) → IsCountedIn cells was → drop was.records cells ≡ entry ∷ rest → now.records ≡ was.records + 1
    → now.images ≡ was.images + length (keys entry.1.1) → now.form ≡ cond (list_any holds_number (keys entry.1.1)) Numbers was.form
    → now.weight ≡ min (was.weight + record_weight entry) (2 ^ 64 - 1) → IsCountedIn cells now
counted_more cells rest entry was now counted left records images form weight =
    let more = one_more_record cells rest was.records entry left in
    let before = spell (take was.records cells) in
    let all : spell (take now.records cells) ≡ before ++ spell_cell entry = ap (λ (k : ℕ). spell (take k cells)) records ∙ ap spell more.2 ∙ spelled_more (take was.records cells) entry in
    record {
      within = omega (arith, more.0, records);
      weight_is =
          let left_now : drop now.records cells ≡ rest = ap (λ (k : ℕ). drop k cells) records ∙ sym more.1 in
          let split : sum_by record_weight (drop was.records cells) ≡ record_weight entry + sum_by record_weight rest = ap (sum_by record_weight) left ∙ sum_by-cons record_weight entry rest in
          ap (λ (l : Entries). min (now.weight + sum_by record_weight l) (2 ^ 64 - 1)) left_now
          ∙ weighed_on was.weight (record_weight entry) (sum_by record_weight rest) now.weight (entries_weight cells) weight (ap (λ n. min (was.weight + n) (2 ^ 64 - 1)) (sym split) ∙ counted.weight_is);
      weight_fits = omega (arith, weight);
      images_are = omega (arith, images, counted.images_are, ap length all, length-append before (spell_cell entry), length-map (keys entry.1.1) (image_of entry));
      form_is =
          form ∙ ap (λ (f : Form). cond (list_any holds_number (keys entry.1.1)) Numbers f) counted.form_is ∙ form_more (list_any holds_number (keys entry.1.1)) (list_any holds before)
          ∙ ap (λ (b : Bool). cond (list_any holds before || b) Numbers Texts) (sym (cell_numbered entry)) ∙ ap (λ (b : Bool). cond b Numbers Texts) (sym (list_any-append holds before (spell_cell entry))) ∙ ap form_of (sym all);
    }

-- no more than there are
pub counted_within : (cells rest : Entries) (entry : List ℕ × CellValue) (was : LineCount) → IsCountedIn cells was → drop was.records cells ≡ entry ∷ rest → was.images + length (keys entry.1.1) ≤ length (spell cells)
counted_within cells rest entry was counted left =
    let whole : take was.records cells ++ (entry ∷ rest) ≡ cells = ap (λ (l : Entries). take was.records cells ++ l) (sym left) ∙ take-append-drop was.records cells in
    let spelled = flat_map-append spell_cell (take was.records cells) (entry ∷ rest) in
    omega (arith, counted.images_are, ap (λ (l : Entries). length (spell l)) whole, ap length spelled, length-append (spell (take was.records cells)) (spell (entry ∷ rest)), cell_count entry rest)

-- all are counted
pub counted_all : (cells : Entries) (counted : LineCount) → IsCountedIn cells counted → length cells ≤ counted.records → (counted.images ≡ length (spell cells)) × (counted.form ≡ form_of (spell cells)) × (counted.weight ≡ entries_weight cells)
counted_all cells counted is over =
    let all = take_all counted.records cells over in
    let none : drop counted.records cells ≡ [] = drop_all counted.records cells over in (
      is.images_are ∙ ap (λ (l : Entries). length (spell l)) all,
      is.form_is ∙ ap (λ (l : Entries). form_of (spell l)) all,
      omega (arith, is.weight_is, is.weight_fits, ap (λ (l : Entries). sum_by record_weight l) none),
    )

-- ---- what counting comes to

-- what counting comes to after this number of further records
pub counts_on : (records : ℕ) (count : CopyCountValue) (counted : LineCount) (result : Result CopyStep NoMemory) → counted.records ≡ min (count.index + records) (length count.copy.cells) → CountsTo count.copy counted result → CountsOn records count result
counts_on records count counted (Ok (Done text)) is to = (to.0, to.1, omega (arith, is, to.2))
counts_on records count counted (Ok (Next more)) is to = (to.0, omega (arith, is, to.1, to.2), omega (arith, to.1, to.2))
counts_on records count counted (Err fault) is to = to

-- too many images are too many lines
pub many_lines : (copy : TabletCopyValue) (n : ℕ) → n ≤ length (spell copy.cells) → n ≤ lines_of_copy copy
many_lines copy n many = omega (arith, many, copy_lines copy)

-- A text that is read has the fault that the reading finds.
use Rattle.std.proofs.Common.{◌≡◌, ◌≢◌, inl, inr, ℕ, ◌+◌, ◌-◌, ◌==◌, Bool, true, false, not, ◌&&◌, if◌then◌else◌, List, [], ◌∷◌, ◌++◌, map, length, All, Option, Some, None, is_some, Result, Ok, Err, refl, sym, ap, ◌∙◌, subst, arith, append-nil, append_assoc, length-append, eq-eqb}
use Rattle.std.proofs.lemmas.Bool.{and_parts, and_from, false≢true, false_from_ne_true}
use Rattle.std.proofs.lemmas.List.{map-append, length-map}
use Rattle.std.proofs.lemmas.List.Elements.{All-head, All-tail, All-nil, All-cons, All-append}
use Rattle.std.specs.Option.{option_map_or}
use Rattle.pn_json.specs.Answers.{◌>>=◌}
use Rattle.pn_line.specs.Line.{IsUnbroken}
use Rattle.pn_line.specs.Text.{text_of}
use Rattle.pn_line.proofs.TextLaws.{text_of-nil}
use Rattle.pn_join.specs.Marks.{Positions}
use Rattle.pn_record.specs.declared.records.Image.{Image}
use Rattle.pn_record.specs.Cells.{table_of, adds}
use Rattle.pn_record.specs.Reading.{IsLine}
use Rattle.pn_record.proofs.CellMaps.{adds-table_of, table_of-nil}
use Rattle.pn_tablet.specs.Copies.{TabletCopyValue, DraftValue, empty_draft, copy_of_draft}
use Rattle.pn_tablet.specs.CopyTexts.{Begin, IsCut, Reaches, IsCutOff, MayCome, HasBadLine, LeavesRange, HasFall, HasBadEnd, Head, IsValue, AreLines, comes_after, images_rise, mark_line}
use Rattle.pn_tablet.specs.CopyReading.{head_at, line_at, pieces_of, is_over, after, read_on, copy_in, copy_at}
use Rattle.pn_tablet.specs.Layouts.{Ends, in_range}
use Rattle.pn_tablet.specs.declared.copy.Form.{Form}
use Rattle.pn_tablet.specs.declared.copy_line.CopyLine.{CopyLine}
use Rattle.pn_tablet.specs.declared.copy_line.CopyLine.TheVariants.{Mark, Record, End}
use Rattle.pn_tablet.specs.declared.fault.CopyTextFault.{CopyTextFault}
use Rattle.pn_tablet.specs.declared.fault.CopyTextFault.TheVariants.{Truncated, BadLine, OutsideRange, NotRising, BadEnd, Memory}
use Rattle.pn_tablet.proofs.CopyTextFacts.{last_with, drafted, text_cut, joined, joined-pieces_of, unbroken-pieces_of}
use Rattle.pn_tablet.proofs.CopyExchanges.{says_one}
use Rattle.pn_tablet.proofs.CopyGrammar.{all_inside, sorted_after, sorted_push}
use Rattle.pn_tablet.proofs.CopyLineCounts.{as_many}
use Rattle.pn_tablet.proofs.CopyValues.{line_at-again, line_at-found, head_at-again, head_at-found}
use Rattle.pn_tablet.proofs.Keeping.{is_after_all}
use Rattle.pn_tablet.proofs.LineFaults.{head_or_not, line_or_not}

-- a fault is the one that the text has
abbrev pub IsRight : List ℕ → Result TabletCopyValue CopyTextFault → Type 0
IsRight text (Ok copy) = Unit {0}
IsRight text (Err Truncated) = IsCutOff text
IsRight text (Err (BadLine n)) = HasBadLine text n
IsRight text (Err (OutsideRange n)) = LeavesRange text n
IsRight text (Err (NotRising n)) = HasFall text n
IsRight text (Err BadEnd) = HasBadEnd text
IsRight text (Err Memory) = ⊥

-- ---- one more image

last_with-push : (last : Option Image) (images : List Image) (image : Image) → last_with last (images ++ image ∷ []) ≡ Some image
last_with-push last [] image = refl
last_with-push last (first ∷ images) image = last_with-push (Some first) images image

pub last_none : (images : List Image) → is_some (last_with None images) ≡ false → images ≡ []
last_none [] is = refl
last_none (image ∷ images) is = absurd (false≢true (sym is ∙ some_last image images))
  where
    some_last : (image : Image) (images : List Image) → is_some (last_with (Some image) images) ≡ true
    some_last image [] = refl
    some_last image (next ∷ images) = some_last next images

pub rise_push : (images : List Image) (image : Image) → images_rise images ≡ true → option_map_or (λ last. comes_after last image) (last_with None images) true ≡ true → images_rise (images ++ image ∷ []) ≡ true
rise_push [] image rise later = refl
rise_push (first ∷ []) image rise later = and_from _ _ later refl
rise_push (first ∷ next ∷ images) image rise later =
    let parts = and_parts (comes_after first next) (images_rise (next ∷ images)) rise in
    and_from _ _ parts.0 (rise_push (next ∷ images) image parts.1 later)

pub rise_last : (images : List Image) (image : Image) → images_rise (images ++ image ∷ []) ≡ true → option_map_or (λ last. comes_after last image) (last_with None images) true ≡ true
rise_last [] image rise = refl
rise_last (first ∷ []) image rise = (and_parts (comes_after first image) true rise).0
rise_last (first ∷ next ∷ images) image rise = rise_last (next ∷ images) image (and_parts (comes_after first next) (images_rise (next ∷ (images ++ image ∷ []))) rise).1

inside_push : (range : Ends) (images : List Image) (image : Image) → all_inside range images ≡ true → in_range range image.key ≡ true → all_inside range (images ++ image ∷ []) ≡ true
inside_push range [] image inside here = and_from _ _ here refl
inside_push range (first ∷ images) image inside here =
    let parts = and_parts (in_range range first.key) (all_inside range images) inside in
    and_from _ _ parts.0 (inside_push range images image parts.1 here)

lines_push : (form : Form) (lines : List (List ℕ)) (says : List CopyLine) (line : List ℕ) (more : CopyLine) → AreLines form lines says → IsLine (IsValue form) line more → AreLines form (lines ++ line ∷ []) (says ++ more ∷ [])
lines_push form [] [] line more are is = (is, tt)
lines_push form [] (first ∷ says) line more are is = absurd are
lines_push form (first ∷ lines) [] line more are is = absurd are
lines_push form (first ∷ lines) (one ∷ says) line more are is = (are.0, lines_push form lines says line more are.1 is)

-- ---- beginnings, one line longer

begin_mark : (lines : List (List ℕ)) (form : Form) (range : Ends) (marks : Positions) (images : List Image) (line name : List ℕ) (position : ℕ) → Begin lines form range marks images → images ≡ []
    → IsLine (IsValue form) line (Mark name position) → is_after_all marks name ≡ true → Begin (lines ++ line ∷ []) form range (marks ++ (name, position) ∷ []) images
begin_mark lines form range marks images line name position is none line_is later =
    let before : map mark_line marks ++ map Record images ≡ map mark_line marks = ap (λ all. map mark_line marks ++ map Record all) none ∙ append-nil (map mark_line marks) in
    let now : map mark_line marks ++ Mark name position ∷ [] ≡ map mark_line (marks ++ (name, position) ∷ []) ++ map Record images =
    sym (map-append mark_line marks ((name, position) ∷ [])) ∙ sym (append-nil _) ∙ ap (λ all. map mark_line (marks ++ (name, position) ∷ []) ++ map Record all) (sym none) in
    record {
      head = is.head;
      later = is.later ++ line ∷ [];
      lines_are = ap (λ ls. ls ++ line ∷ []) is.lines_are;
      head_is = is.head_is;
      later_are = subst (AreLines form (is.later ++ line ∷ [])) (ap (λ says. says ++ Mark name position ∷ []) before ∙ now) (lines_push form is.later _ line (Mark name position) is.later_are line_is);
      names_rise = sorted_push marks name position is.names_rise later;
      images_rise = is.images_rise;
      inside = is.inside;
    }

begin_image : (lines : List (List ℕ)) (form : Form) (range : Ends) (marks : Positions) (images : List Image) (line : List ℕ) (image : Image) → Begin lines form range marks images
    → IsLine (IsValue form) line (Record image) → in_range range image.key ≡ true → option_map_or (λ last. comes_after last image) (last_with None images) true ≡ true
    → Begin (lines ++ line ∷ []) form range marks (images ++ image ∷ [])
begin_image lines form range marks images line image is line_is here later =
    let now : (map mark_line marks ++ map Record images) ++ Record image ∷ [] ≡ map mark_line marks ++ map Record (images ++ image ∷ []) =
    append_assoc (map mark_line marks) (map Record images) (Record image ∷ []) ∙ ap (λ all. map mark_line marks ++ all) (sym (map-append Record images (image ∷ []))) in
    record {
      head = is.head;
      later = is.later ++ line ∷ [];
      lines_are = ap (λ ls. ls ++ line ∷ []) is.lines_are;
      head_is = is.head_is;
      later_are = subst (AreLines form (is.later ++ line ∷ [])) now (lines_push form is.later _ line (Record image) is.later_are line_is);
      names_rise = is.names_rise;
      images_rise = rise_push images image is.images_rise later;
      inside = inside_push range images image is.inside here;
    }

-- a beginning has a line for its head, and one for each mark and image
pub begin_count : (lines : List (List ℕ)) (form : Form) (range : Ends) (marks : Positions) (images : List Image) → Begin lines form range marks images → length lines ≡ length marks + length images + 1
begin_count lines form range marks images is =
    omega (arith, ap length is.lines_are, as_many form is.later _ is.later_are, length-append (map mark_line marks) (map Record images), length-map marks mark_line, length-map images Record)

-- ---- a line, and the lines after it

none_left : (piece : List ℕ) (pieces : List (List ℕ)) → joined (piece ∷ pieces) ≡ [] → is_over (piece ∷ pieces) ≡ true
none_left [] [] is = refl
none_left (b ∷ piece) [] is = absurd (cc)
none_left [] (next ∷ pieces) is = absurd (cc)
none_left (b ∷ piece) (next ∷ pieces) is = absurd (cc)

module _ (text : List ℕ) (lines : List (List ℕ)) (form : Form) (range : Ends) (marks : Positions) (images : List Image) (line piece : List ℕ) (more : List (List ℕ))
    (begin : Begin lines form range marks images) (cut : IsCut text lines line (joined (piece ∷ more)))
    (next : (others : Positions) (later : List Image) → Begin (lines ++ line ∷ []) form range others later → IsRight text (read_on form (length lines + 1 + 1) (drafted range others later) (piece ∷ more))) where
  abbrev here : Reaches text (length lines + 1)
  here = record { lines = lines; line = line; rest = joined (piece ∷ more); cut = cut; number = refl; form = form; range = range; marks = marks; images = images; begin = begin }

  mark_right : (name : List ℕ) (position : ℕ) → IsLine (IsValue form) line (Mark name position) → (some later : Bool) → is_some (last_with None images) ≡ some → is_after_all marks name ≡ later
      → IsRight text ((if some then Err (BadLine (length lines + 1)) else (if later then Ok (record (drafted range marks images) { marks = marks ++ (name, position) ∷ [] }) else Err (NotRising (length lines + 1))))
      >>= (λ longer. read_on form (length lines + 1 + 1) longer (piece ∷ more)))
  mark_right name position line_is true later is_image is_later =
      inr (here, λ says is none. absurd (misplaced says (says_one form line says (Mark name position) is line_is) none))
    where
      some_image : images ≡ [] → ⊥
      some_image none = false≢true (ap (λ all. is_some (last_with None all)) (sym none) ∙ is_image)

      misplaced : (says : CopyLine) → says ≡ Mark name position → MayCome images says → ⊥
      misplaced says same may = some_image (subst (MayCome images) same may)
  mark_right name position line_is false true is_image is_later =
      let none = last_none images is_image in
      next (marks ++ (name, position) ∷ []) images (begin_mark lines form range marks images line name position begin none line_is is_later)
  mark_right name position line_is false false is_image is_later =
      (here, Mark name position, line_is, (last_none images is_image, false_from_ne_true _ (λ sorted. false≢true (sym is_later ∙ sorted_after marks (name, position) [] sorted))))

  image_right : (image : Image) → IsLine (IsValue form) line (Record image) → (inside later : Bool) → in_range range image.key ≡ inside → option_map_or (λ last. comes_after last image) (last_with None images) true ≡ later
      → IsRight text ((if not inside then Err (OutsideRange (length lines + 1)) else (if later then Ok (record (drafted range marks images) { cells = adds (table_of images) (image ∷ []); last = Some image }) else Err (NotRising (length lines + 1))))
      >>= (λ longer. read_on form (length lines + 1 + 1) longer (piece ∷ more)))
  image_right image line_is false later is_inside is_later = (here, image, line_is, is_inside)
  image_right image line_is true true is_inside is_later =
      let longer : drafted range marks (images ++ image ∷ []) ≡ record (drafted range marks images) { cells = adds (table_of images) (image ∷ []); last = Some image } =
      λ i. record { range = range; marks = marks; cells = sym (adds-table_of images (image ∷ [])) i; last = last_with-push None images image i } in
      subst (λ (d : DraftValue). IsRight text (read_on form (length lines + 1 + 1) d (piece ∷ more))) longer (next marks (images ++ image ∷ []) (begin_image lines form range marks images line image begin line_is is_inside is_later))
  image_right image line_is true false is_inside is_later =
      (here, Record image, line_is, (is_inside, false_from_ne_true _ (λ rise. false≢true (sym is_later ∙ rise_last images image rise))))

  end_right : (count : ℕ) → IsLine (IsValue form) line (End count) → (counts over : Bool) → (count == length lines + 1 - 2) ≡ counts → is_over (piece ∷ more) ≡ over
      → IsRight text (if counts && over then Ok (copy_of_draft (drafted range marks images)) else Err BadEnd)
  end_right count line_is true true counts ends = tt
  end_right count line_is true false counts ends =
      (length lines + 1, here, count, line_is, λ right. false≢true (sym ends ∙ none_left piece more right.1))
  end_right count line_is false over counts ends =
      (length lines + 1, here, count, line_is, λ right. false≢true (sym counts ∙ eq-eqb count (length lines + 1 - 2) (omega (arith, right.0, begin_count lines form range marks images begin))))

  line_right : (says : CopyLine) → IsLine (IsValue form) line says
      → IsRight text (after (length lines + 1) (drafted range marks images) (λ longer. read_on form (length lines + 1 + 1) longer (piece ∷ more)) (is_over (piece ∷ more)) says)
  line_right (Mark name position) line_is = mark_right name position line_is (is_some (last_with None images)) (is_after_all marks name) refl refl
  line_right (Record image) line_is = image_right image line_is (in_range range image.key) (option_map_or (λ last. comes_after last image) (last_with None images) true) refl refl
  line_right (End count) line_is = end_right count line_is (count == length lines + 1 - 2) (is_over (piece ∷ more)) refl refl

  first_right : IsRight text (line_at form (BadLine (length lines + 1)) line >>= after (length lines + 1) (drafted range marks images) (λ longer. read_on form (length lines + 1 + 1) longer (piece ∷ more)) (is_over (piece ∷ more)))
  first_right =
      let n = length lines + 1 in
      elim (line_or_not (BadLine n) form line) as (λ _. IsRight text (line_at form (BadLine n) line >>= after n (drafted range marks images) (λ longer. read_on form (n + 1) longer (piece ∷ more)) (is_over (piece ∷ more)))) [
        | inl read ↦ rw read.1 (line_right read.0 (line_at-found (BadLine n) form line read.0 read.1))
        | inr is ↦ rw is (inr (here, λ says line_is may. no_line (sym is ∙ line_at-again (BadLine n) form line says line_is)))
      ]
    where
      no_line : {says : CopyLine} → ◌≡◌ {A = Result CopyLine CopyTextFault} (Err (BadLine (length lines + 1))) (Ok says) → ⊥
      no_line is = cc

-- ---- a whole text

-- the lines before the pieces begin a copy
pub right_on : (text : List ℕ) (lines : List (List ℕ)) (form : Form) (range : Ends) (marks : Positions) (images : List Image) (pieces : List (List ℕ)) → Begin lines form range marks images
    → All IsUnbroken lines → All IsUnbroken pieces → text ≡ text_of lines ++ joined pieces → IsRight text (read_on form (length lines + 1) (drafted range marks images) pieces)
unfolding read_on
right_on text lines form range marks images [] begin unbroken parts is =
    record { lines = lines; part = []; text_is = is; unbroken = (unbroken, All-nil (λ x. x ≢ 10)); begin = inr (form, range, marks, images, begin) }
right_on text lines form range marks images (part ∷ []) begin unbroken parts is =
    record { lines = lines; part = part; text_is = is; unbroken = (unbroken, All-head IsUnbroken part [] parts); begin = inr (form, range, marks, images, begin) }
right_on text lines form range marks images (line ∷ piece ∷ more) begin unbroken parts is =
    let longer : All IsUnbroken (lines ++ line ∷ []) =
    All-append IsUnbroken lines (line ∷ []) unbroken (All-cons IsUnbroken line [] (All-head IsUnbroken line (piece ∷ more) parts) (All-nil IsUnbroken)) in
    let cut : IsCut text lines line (joined (piece ∷ more)) = record { text_is = is ∙ sym (text_cut lines line (joined (piece ∷ more))); unbroken = longer } in
    let number : length (lines ++ line ∷ []) + 1 ≡ length lines + 1 + 1 = omega (arith, length-append lines (line ∷ [])) in
    first_right text lines form range marks images line piece more begin cut (λ others later begun_too.
    subst (λ n. IsRight text (read_on form n (drafted range others later) (piece ∷ more))) number
    (right_on text (lines ++ line ∷ []) form range others later (piece ∷ more) begun_too longer (All-tail IsUnbroken line (piece ∷ more) parts) cut.text_is))

right_in : (text : List ℕ) (pieces : List (List ℕ)) → All IsUnbroken pieces → text ≡ joined pieces → IsRight text (copy_in pieces)
right_in text [] parts is =
    record { lines = []; part = []; text_is = is ∙ ap (λ t. t ++ []) (sym text_of-nil); unbroken = (All-nil IsUnbroken, All-nil (λ x. x ≢ 10)); begin = inl refl }
right_in text (part ∷ []) parts is =
    record { lines = []; part = part; text_is = is ∙ ap (λ t. t ++ part) (sym text_of-nil); unbroken = (All-nil IsUnbroken, All-head IsUnbroken part [] parts); begin = inl refl }
right_in text (head ∷ piece ∷ more) parts is =
    let unbroken : All IsUnbroken (head ∷ []) = All-cons IsUnbroken head [] (All-head IsUnbroken head (piece ∷ more) parts) (All-nil IsUnbroken) in
    let first : text ≡ text_of (head ∷ []) ++ joined (piece ∷ more) =
    is ∙ ap (λ t. t ++ (head ++ 10 ∷ joined (piece ∷ more))) (sym text_of-nil) ∙ sym (text_cut [] head (joined (piece ∷ more))) in
    elim (head_or_not (BadLine 1) head) as (λ _. IsRight text (head_at (BadLine 1) head >>= (λ read. read_on read.0 2 (empty_draft read.1) (piece ∷ more)))) [
      | inl read ↦
          let begin : Begin (head ∷ []) read.0.0 read.0.1 [] [] =
          record { head = head; later = []; lines_are = refl; head_is = head_at-found (BadLine 1) head read.0 read.1; later_are = tt; names_rise = refl; images_rise = refl; inside = refl } in
          let none : drafted read.0.1 [] [] ≡ empty_draft read.0.1 = λ i. record { range = read.0.1; marks = []; cells = table_of-nil i; last = None } in
          rw read.1 (subst (λ (d : DraftValue). IsRight text (read_on read.0.0 2 d (piece ∷ more))) none (right_on text (head ∷ []) read.0.0 read.0.1 [] [] (piece ∷ more) begin unbroken (All-tail IsUnbroken head (piece ∷ more) parts) first))
      | inr bad ↦
          rw bad (inl (refl, (head, joined (piece ∷ more), record { text_is = first; unbroken = unbroken }, λ says is_head. no_head (sym bad ∙ head_at-again (BadLine 1) head says is_head))))
    ]
  where
    no_head : {says : Head} → ◌≡◌ {A = Result Head CopyTextFault} (Err (BadLine 1)) (Ok says) → ⊥
    no_head is = cc

pub right_at : (text : List ℕ) → IsRight text (copy_at text)
unfolding copy_at
right_at text = right_in text (pieces_of text) (unbroken-pieces_of text) (sym (joined-pieces_of text))

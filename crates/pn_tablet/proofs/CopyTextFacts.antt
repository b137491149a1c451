-- A text is read as a copy exactly where it spells the copy, and what is left after lines that begin one decides.
use Rattle.std.proofs.Common.{◌≡◌, ℕ, suc, ◌+◌, true, List, [], ◌∷◌, ◌++◌, map, length, All, Option, Some, None, Ok, refl, sym, ap, ◌∙◌, append_assoc, append-nil, arith, ◌≢◌, Result, Err, subst, zero-add, IfOk, ⊎_elim}
use Rattle.std.proofs.lemmas.Bool.{and_parts, cases_eq}
use Rattle.std.proofs.lemmas.List.Elements.{All-head, All-tail, All-nil, All-cons}
use Rattle.std.specs.FinMap.{is_sorted}
use Rattle.pn_line.specs.Line.{IsUnbroken}
use Rattle.pn_line.specs.Text.{text_of, onto_first}
use Rattle.pn_line.proofs.TextLaws.{text_of-push}
use Rattle.pn_join.specs.Marks.{Positions, name_cmp}
use Rattle.pn_json.specs.Answers.{IsUnless}
use Rattle.pn_json.proofs.LookUps.{bind_ok}
use Rattle.pn_record.specs.declared.records.Image.{Image}
use Rattle.pn_record.specs.Cells.{table_of, adds}
use Rattle.pn_record.proofs.CellMaps.{adds-table_of, table_of-nil}
use Rattle.pn_tablet.specs.CopyTexts.{Begin, Reaches, AreLines, images_rise, mark_line, IsCopyText}
use Rattle.pn_tablet.specs.CopyReading.{head_at, pieces_of, with_mark, with_image, read_on, copy_in, copy_at}
use Rattle.pn_tablet.specs.Copies.{DraftValue, empty_draft, TabletCopyValue}
use Rattle.pn_tablet.specs.Layouts.{Ends, in_range}
use Rattle.pn_tablet.specs.declared.copy.Form.{Form}
use Rattle.pn_tablet.specs.declared.copy_line.CopyLine.TheVariants.{Mark, Record}
use Rattle.pn_tablet.specs.declared.fault.CopyTextFault.TheVariants.{BadLine, Memory}
use Rattle.pn_tablet.proofs.CopyGrammar.{rise_after, all_inside, first_after, sorted_after, lines_with, lines_again, follow}
use Rattle.pn_tablet.proofs.CopySteps.{pieces_of-text, pieces_of-some, pieces_of-line, pieces_of-nil, pieces_of-newline, pieces_of-byte, read_on-cons, then_ok}
use Rattle.pn_tablet.proofs.CopyValues.{line_at-again, head_at-again, head_at-found}
use Rattle.pn_tablet.specs.declared.fault.CopyTextFault.{CopyTextFault}

-- Lines that begin a copy are read, and what is left of the text decides.

-- the last image, if there is one, and otherwise the one before
abbrev pub last_with : Option Image → List Image → Option Image
last_with last [] = last
last_with last (image ∷ images) = last_with (Some image) images

-- what was read of a copy whose marks and images so far are these
abbrev pub drafted : Ends → Positions → List Image → DraftValue
drafted range marks images = record { range = range; marks = marks; cells = table_of images; last = last_with None images }

pub some_then : (lines : List (List ℕ)) (rest : List ℕ) → (piece : List ℕ) × (more : List (List ℕ)) × (lines ++ pieces_of rest ≡ piece ∷ more)
some_then [] rest = pieces_of-some rest
some_then (line ∷ lines) rest = (line, lines ++ pieces_of rest, refl)

module _ (form : Form) (range : Ends) (marks : Positions) (rest : List ℕ) where
  images_read : (n : ℕ) (done : List Image) (last : Option Image) (images : List Image) (lines : List (List ℕ)) → AreLines form lines (map Record images) → rise_after last images ≡ true → all_inside range images ≡ true
      → read_on form n (record { range = range; marks = marks; cells = table_of done; last = last }) (lines ++ pieces_of rest)
      ≡ read_on form (n + length lines) (record { range = range; marks = marks; cells = table_of (done ++ images); last = last_with last images }) (pieces_of rest)
  images_read n done last [] [] are rise inside =
      let same : n ≡ n + 0 = omega arith in
      λ i. read_on form (same i) (record { range = range; marks = marks; cells = table_of (sym (append-nil done) i); last = last }) (pieces_of rest)
  images_read n done last [] (line ∷ lines) are rise inside = absurd are
  images_read n done last (image ∷ images) [] are rise inside = absurd are
  images_read n done last (image ∷ images) (line ∷ lines) are rise inside =
      let draft : DraftValue = record { range = range; marks = marks; cells = table_of done; last = last } in
      let (piece, more, is) = some_then lines rest in
      let later = first_after last image images rise in
      let within = and_parts (in_range range image.key) (all_inside range images) inside in
      let grown : adds (table_of done) (image ∷ []) ≡ table_of (done ++ image ∷ []) = adds-table_of done (image ∷ []) in
      let longer : DraftValue = record { range = range; marks = marks; cells = table_of (done ++ image ∷ []); last = Some image } in
      let taken : with_image n draft image ≡ Ok longer = rw (within.0, later.0, grown) refl in
      let number : n + 1 + length lines ≡ n + suc (length lines) = omega arith in
      read_on-cons form n draft line piece (lines ++ pieces_of rest) more is
      ∙ then_ok _ _ (Record image) (line_at-again (BadLine n) form line (Record image) are.0)
      ∙ then_ok (with_image n draft image) (λ d. read_on form (n + 1) d (lines ++ pieces_of rest)) longer taken
      ∙ images_read (n + 1) (done ++ image ∷ []) (Some image) images lines are.1 later.1 within.1
      ∙ (λ i. read_on form (number i) (record { range = range; marks = marks; cells = table_of (append_assoc done (image ∷ []) images i); last = last_with (Some image) images }) (pieces_of rest))

module _ (form : Form) (range : Ends) (rest : List ℕ) (images : List Image) (rise : images_rise images ≡ true) (inside : all_inside range images ≡ true) where
  marks_read : (n : ℕ) (marks more : Positions) (lines : List (List ℕ)) → AreLines form lines (map mark_line more ++ map Record images) → is_sorted name_cmp (marks ++ more) ≡ true
      → read_on form n (drafted range marks []) (lines ++ pieces_of rest) ≡ read_on form (n + length lines) (drafted range (marks ++ more) images) (pieces_of rest)
  marks_read n marks [] lines are sorted =
      images_read form range marks rest n [] None images lines are rise inside
      ∙ ap (λ all. read_on form (n + length lines) (drafted range all images) (pieces_of rest)) (sym (append-nil marks))
  marks_read n marks (mark ∷ more) [] are sorted = absurd are
  marks_read n marks (mark ∷ more) (line ∷ lines) are sorted =
      let draft : DraftValue = drafted range marks [] in
      let (piece, others, is) = some_then lines rest in
      let longer : DraftValue = drafted range (marks ++ mark ∷ []) [] in
      let taken : with_mark n draft (mark.0, mark.1) ≡ Ok longer = rw (sorted_after marks mark more sorted) refl in
      let number : n + 1 + length lines ≡ n + suc (length lines) = omega arith in
      read_on-cons form n draft line piece (lines ++ pieces_of rest) others is
      ∙ then_ok _ _ (Mark mark.0 mark.1) (line_at-again (BadLine n) form line (Mark mark.0 mark.1) are.0)
      ∙ then_ok (with_mark n draft (mark.0, mark.1)) (λ d. read_on form (n + 1) d (lines ++ pieces_of rest)) longer taken
      ∙ marks_read (n + 1) (marks ++ mark ∷ []) more lines are.1 (ap (is_sorted name_cmp) (append_assoc marks (mark ∷ []) more) ∙ sorted)
      ∙ (λ i. read_on form (number i) (drafted range (append_assoc marks (mark ∷ []) more i) images) (pieces_of rest))

-- after lines that begin a copy, what is left of the text is read on
pub begun_read : (lines : List (List ℕ)) (form : Form) (range : Ends) (marks : Positions) (images : List Image) (rest : List ℕ) → All IsUnbroken lines → Begin lines form range marks images
    → copy_at (text_of lines ++ rest) ≡ read_on form (length lines + 1) (drafted range marks images) (pieces_of rest)
unfolding copy_at
begun_read lines form range marks images rest unbroken is =
    let (piece, more, some) = some_then is.later rest in
    let number : 2 + length is.later ≡ length lines + 1 = omega (arith, ap length is.lines_are) in
    ap copy_in (pieces_of-text lines rest unbroken ∙ ap (λ ls. ls ++ pieces_of rest) is.lines_are ∙ ap (λ ps. is.head ∷ ps) some)
    ∙ then_ok (head_at (BadLine 1) is.head) (λ read. read_on read.0 2 (empty_draft read.1) (piece ∷ more)) (form, range) (head_at-again (BadLine 1) is.head (form, range) is.head_is)
    ∙ ap (read_on form 2 (empty_draft range)) (sym some)
    ∙ ap (λ cells. read_on form 2 (record { range = range; marks = []; cells = cells; last = None }) (is.later ++ pieces_of rest)) (sym table_of-nil)
    ∙ marks_read form range rest images is.images_rise is.inside 2 [] marks is.later is.later_are is.names_rise
    ∙ ap (λ n. read_on form n (drafted range marks images) (pieces_of rest)) number

-- ---- a line of a text

pub front_unbroken : (lines : List (List ℕ)) (line : List ℕ) → All IsUnbroken (lines ++ line ∷ []) → All IsUnbroken lines
front_unbroken [] line unbroken = All-nil IsUnbroken
front_unbroken (first ∷ lines) line unbroken =
    All-cons IsUnbroken first lines (All-head IsUnbroken first (lines ++ line ∷ []) unbroken) (front_unbroken lines line (All-tail IsUnbroken first (lines ++ line ∷ []) unbroken))

pub last_unbroken : (lines : List (List ℕ)) (line : List ℕ) → All IsUnbroken (lines ++ line ∷ []) → IsUnbroken line
last_unbroken [] line unbroken = All-head IsUnbroken line [] unbroken
last_unbroken (first ∷ lines) line unbroken = last_unbroken lines line (All-tail IsUnbroken first (lines ++ line ∷ []) unbroken)

-- a line's text stands between the lines before it and the rest
pub text_cut : (lines : List (List ℕ)) (line rest : List ℕ) → text_of (lines ++ line ∷ []) ++ rest ≡ text_of lines ++ (line ++ 10 ∷ rest)
text_cut lines line rest =
    ap (λ t. t ++ rest) (text_of-push lines line) ∙ append_assoc (text_of lines) (line ++ 10 ∷ []) rest
    ∙ ap (λ t. text_of lines ++ t) (append_assoc line (10 ∷ []) rest)

-- the reading comes to the line, with what the lines before it say
pub reached : (text : List ℕ) (n : ℕ) (at : Reaches text n) → copy_at text ≡ read_on at.form n (drafted at.range at.marks at.images) (at.line ∷ pieces_of at.rest)
reached text n at =
    ap copy_at (at.cut.text_is ∙ text_cut at.lines at.line at.rest)
    ∙ begun_read at.lines at.form at.range at.marks at.images (at.line ++ 10 ∷ at.rest) (front_unbroken at.lines at.line at.cut.unbroken) at.begin
    ∙ ap (λ m. read_on at.form m (drafted at.range at.marks at.images) (pieces_of (at.line ++ 10 ∷ at.rest))) (sym at.number)
    ∙ ap (read_on at.form n (drafted at.range at.marks at.images)) (pieces_of-line at.line at.rest (last_unbroken at.lines at.line at.cut.unbroken))

-- A text is read as a copy exactly where it spells the copy.

-- ---- from the pieces back to the text

abbrev pub joined : List (List ℕ) → List ℕ
joined [] = []
joined (piece ∷ []) = piece
joined (piece ∷ next ∷ pieces) = piece ++ 10 ∷ joined (next ∷ pieces)

joined-onto : (b : ℕ) (piece : List ℕ) (pieces : List (List ℕ)) → joined ((b ∷ piece) ∷ pieces) ≡ b ∷ joined (piece ∷ pieces)
joined-onto b piece [] = refl
joined-onto b piece (next ∷ pieces) = refl

pub joined-cons : (line : List ℕ) (pieces more : List (List ℕ)) (piece : List ℕ) → pieces ≡ piece ∷ more → joined (line ∷ pieces) ≡ line ++ 10 ∷ joined pieces
joined-cons line pieces more piece is = rw is refl

pub joined-pieces_of : (text : List ℕ) → joined (pieces_of text) ≡ text
joined-pieces_of [] = rw pieces_of-nil refl
joined-pieces_of (b ∷ text) =
    let (piece, more, is) = pieces_of-some text in
    ⊎_elim
    (λ (newline : b ≡ 10). ap (λ x. joined (pieces_of (x ∷ text))) newline ∙ ap joined (pieces_of-newline text) ∙ joined-cons [] (pieces_of text) more piece is ∙ ap (λ t. 10 ∷ t) (joined-pieces_of text) ∙ ap (λ x. x ∷ text) (sym newline))
    (λ (other : b ≢ 10). ap joined (pieces_of-byte b text other ∙ ap (onto_first b) is) ∙ joined-onto b piece more ∙ ap (λ t. b ∷ t) (ap joined (sym is) ∙ joined-pieces_of text))
    (cases_eq b 10)

last_after : (lines : List (List ℕ)) → (piece : List ℕ) × (more : List (List ℕ)) × (lines ++ [] ∷ [] ≡ piece ∷ more)
last_after [] = ([], [], refl)
last_after (line ∷ lines) = (line, lines ++ [] ∷ [], refl)

joined-lines : (lines : List (List ℕ)) → joined (lines ++ [] ∷ []) ≡ text_of lines
unfolding text_of
joined-lines [] = refl
joined-lines (line ∷ lines) =
    let (piece, more, is) = last_after lines in
    joined-cons line (lines ++ [] ∷ []) more piece is ∙ ap (λ t. line ++ 10 ∷ t) (joined-lines lines)

onto_first-unbroken : (b : ℕ) (pieces : List (List ℕ)) → b ≢ 10 → All IsUnbroken pieces → All IsUnbroken (onto_first b pieces)
onto_first-unbroken b [] other unbroken = All-cons IsUnbroken (b ∷ []) [] (All-cons (λ x. x ≢ 10) b [] other (All-nil (λ x. x ≢ 10))) (All-nil IsUnbroken)
onto_first-unbroken b (piece ∷ pieces) other unbroken =
    All-cons IsUnbroken (b ∷ piece) pieces
    (All-cons (λ x. x ≢ 10) b piece other (All-head IsUnbroken piece pieces unbroken))
    (All-tail IsUnbroken piece pieces unbroken)

pub unbroken-pieces_of : (text : List ℕ) → All IsUnbroken (pieces_of text)
unbroken-pieces_of [] = rw pieces_of-nil (All-cons IsUnbroken [] [] (All-nil (λ x. x ≢ 10)) (All-nil IsUnbroken))
unbroken-pieces_of (b ∷ text) =
    ⊎_elim
    (λ (is : b ≡ 10). rw (is, pieces_of-newline text) (All-cons IsUnbroken [] (pieces_of text) (All-nil (λ x. x ≢ 10)) (unbroken-pieces_of text)))
    (λ (other : b ≢ 10). let first = pieces_of-byte b text other in rw first (onto_first-unbroken b (pieces_of text) other (unbroken-pieces_of text)))
    (cases_eq b 10)

unbroken-front : (lines : List (List ℕ)) (rest : List (List ℕ)) → All IsUnbroken (lines ++ rest) → All IsUnbroken lines
unbroken-front [] rest unbroken = All-nil IsUnbroken
unbroken-front (line ∷ lines) rest unbroken = All-cons IsUnbroken line lines (All-head IsUnbroken line (lines ++ rest) unbroken) (unbroken-front lines rest (All-tail IsUnbroken line (lines ++ rest) unbroken))

-- ---- whole texts

-- a text that spells a copy is read as it
pub text_again : (text : List ℕ) (copy : TabletCopyValue) → IsCopyText text copy → copy_at text ≡ Ok copy
unfolding copy_at
text_again text copy is =
    let (piece, more, after) = last_after is.lines in
    let pieces : pieces_of text ≡ is.head ∷ (is.lines ++ [] ∷ []) =
    ap pieces_of (is.text_is ∙ sym (append-nil (text_of (is.head ∷ is.lines)))) ∙ pieces_of-text (is.head ∷ is.lines) [] is.unbroken ∙ ap (λ rest. (is.head ∷ is.lines) ++ rest) pieces_of-nil in
    ap copy_in (pieces ∙ ap (λ rest. is.head ∷ rest) after)
    ∙ then_ok (head_at (BadLine 1) is.head) (λ read. read_on read.0 2 (empty_draft read.1) (piece ∷ more)) (is.form, copy.range) (head_at-again (BadLine 1) is.head (is.form, copy.range) is.head_is)
    ∙ ap (read_on is.form 2 (empty_draft copy.range)) (sym after)
    ∙ lines_again is.form copy.range is.images is.images_rise is.inside 2 [] copy.marks is.lines (length copy.marks + length is.images) (omega arith) (omega arith) is.lines_are is.names_rise
    ∙ ap (λ cells. Ok (record { range = copy.range; marks = copy.marks; cells = cells })) (sym is.cells)

-- what pieces that are read as a copy are
spelled_by : (text : List ℕ) (pieces : List (List ℕ)) (copy : TabletCopyValue) → pieces_of text ≡ pieces → copy_in pieces ≡ Ok copy → IsCopyText text copy
spelled_by text [] copy cut is = absurd (cc)
spelled_by text (part ∷ []) copy cut is = absurd (cc)
spelled_by text (head ∷ piece ∷ pieces) copy cut is =
    let read = bind_ok (head_at (BadLine 1) head) (λ read. read_on read.0 2 (empty_draft read.1) (piece ∷ pieces)) copy is in
    let f = follow read.0.0 2 (empty_draft read.0.1) [] (piece ∷ pieces) copy (omega arith) (sym table_of-nil) read.2 in
    let all : pieces_of text ≡ (head ∷ f.lines) ++ [] ∷ [] = cut ∙ ap (λ rest. head ∷ rest) f.pieces_are in
    rw f.copy_is (record {
      form = read.0.0;
      head = head;
      lines = f.lines;
      images = f.images;
      text_is = sym (joined-pieces_of text) ∙ ap joined all ∙ joined-lines (head ∷ f.lines);
      unbroken = unbroken-front (head ∷ f.lines) ([] ∷ []) (subst (All IsUnbroken) all (unbroken-pieces_of text));
      head_is = head_at-found (BadLine 1) head read.0 read.1;
      lines_are = subst (λ count. AreLines read.0.0 f.lines (lines_with f.marks f.images count)) (zero-add (length f.marks + length f.images)) f.lines_are;
      names_rise = f.sorted refl;
      images_rise = f.rise;
      inside = f.inside;
      cells = refl;
    })

-- and a text that is read as a copy spells it
pub text_found : (text : List ℕ) (copy : TabletCopyValue) → copy_at text ≡ Ok copy → IsCopyText text copy
unfolding copy_at
text_found text copy is = spelled_by text (pieces_of text) copy refl is

-- so an answer that is right is a copy that the text spells
pub answer_found : (text : List ℕ) (answer : Result TabletCopyValue CopyTextFault) → IsUnless Memory answer (copy_at text) → IfOk answer (λ copy. IsCopyText text copy)
answer_found text (Ok copy) right = text_found text copy right
answer_found text (Err fault) right = tt

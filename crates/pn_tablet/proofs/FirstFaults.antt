-- A text has a fault exactly where the reading finds it.
use Rattle.std.proofs.Common.{◌≡◌, ◌↔◌, ◌⊎◌, inl, inr, ℕ, ◌+◌, ◌-◌, ◌==◌, true, false, ◌&&◌, if◌then◌else◌, List, [], ◌∷◌, ◌++◌, length, None, is_some, Ok, Err, refl, sym, ap, ◌∙◌, subst, arith, eqb-true}
use Rattle.std.proofs.lemmas.Bool.{and_parts, false≢true, false_from_ne_true, true_from_ne_false}
use Rattle.std.specs.Option.{option_map_or}
use Rattle.pn_line.specs.Text.{text_of}
use Rattle.pn_line.proofs.TextLaws.{text_of-nil}
use Rattle.pn_join.specs.Marks.{Positions}
use Rattle.pn_record.specs.declared.records.Image.{Image}
use Rattle.pn_record.specs.Reading.{IsLine}
use Rattle.pn_tablet.specs.CopyTexts.{Begin, IsCut, Reaches, IsCutOff, MayCome, HasBadLine, LeavesRange, Falls, HasFall, HasBadEnd, IsValue, comes_after}
use Rattle.pn_tablet.specs.CopyReading.{head_at, pieces_of, is_over, with_mark, with_image, after, read_on, copy_in, copy_at}
use Rattle.pn_tablet.specs.Copies.{DraftValue, copy_of_draft}
use Rattle.pn_tablet.specs.Layouts.{Ends, in_range}
use Rattle.pn_tablet.specs.declared.copy.Form.{Form}
use Rattle.pn_tablet.specs.declared.copy_line.CopyLine.{CopyLine}
use Rattle.pn_tablet.specs.declared.copy_line.CopyLine.TheVariants.{Mark, Record, End}
use Rattle.pn_tablet.specs.declared.fault.CopyTextFault.TheVariants.{Truncated, BadLine, OutsideRange, NotRising, BadEnd, Memory}
use Rattle.pn_tablet.proofs.CopyTextFacts.{last_with, drafted, begun_read, text_cut, last_unbroken, reached}
use Rattle.pn_tablet.proofs.CopyGrammar.{sorted_push}
use Rattle.pn_tablet.proofs.CopySteps.{pieces_of-last, pieces_of-line, is_over-pieces_of, read_on-bad, read_on-said, read_on-last, copy_at-bad, then_err}
use Rattle.pn_tablet.proofs.CopyValues.{line_at-again, line_at-found}
use Rattle.pn_tablet.proofs.Keeping.{is_after_all}
use Rattle.pn_tablet.proofs.FaultCases.{IsRight, right_at, last_none, rise_push, begin_count}
use Rattle.pn_tablet.proofs.LineFaults.{line_or_not, head_at-none}

-- ---- a line that no longer begins a copy is found

module _ (text : List ℕ) (n : ℕ) (at : Reaches text n) where
  abbrev draft : DraftValue
  draft = drafted at.range at.marks at.images

  -- what a line that says this comes to
  said : (says : CopyLine) → IsLine (IsValue at.form) at.line says → copy_at text ≡ after n draft (λ longer. read_on at.form (n + 1) longer (pieces_of at.rest)) (is_over (pieces_of at.rest)) says
  said says is = reached text n at ∙ read_on-said at.form n draft (at.line ∷ pieces_of at.rest) at.line at.rest refl says (line_at-again (BadLine n) at.form at.line says is)

  misplaced : (says : CopyLine) → IsLine (IsValue at.form) at.line says → ¬ MayCome at.images says → copy_at text ≡ Err (BadLine n)
  misplaced (Mark name position) is may =
      let image : is_some (last_with None at.images) ≡ true = true_from_ne_false _ (λ none. may (last_none at.images none)) in
      let refused : with_mark n draft (name, position) ≡ Err (BadLine n) = rw image refl in
      said (Mark name position) is ∙ then_err (with_mark n draft (name, position)) _ (BadLine n) refused
  misplaced (Record image) is may = absurd (may tt)
  misplaced (End count) is may = absurd (may tt)

  bad_found : ((says : CopyLine) → IsLine (IsValue at.form) at.line says → ¬ MayCome at.images says) → copy_at text ≡ Err (BadLine n)
  bad_found may =
      elim (line_or_not (BadLine n) at.form at.line) as (λ _. copy_at text ≡ Err (BadLine n)) [
        | inl read ↦ let is = line_at-found (BadLine n) at.form at.line read.0 read.1 in misplaced read.0 is (may read.0 is)
        | inr is ↦ reached text n at ∙ read_on-bad at.form n draft (at.line ∷ pieces_of at.rest) at.line at.rest refl (BadLine n) is
      ]

  outside_found : (image : Image) → IsLine (IsValue at.form) at.line (Record image) → in_range at.range image.key ≡ false → copy_at text ≡ Err (OutsideRange n)
  outside_found image is outside =
      let refused : with_image n draft image ≡ Err (OutsideRange n) = rw outside refl in
      said (Record image) is ∙ then_err (with_image n draft image) _ (OutsideRange n) refused

  fall_found : (says : CopyLine) → IsLine (IsValue at.form) at.line says → Falls at.range at.marks at.images says → copy_at text ≡ Err (NotRising n)
  fall_found (Mark name position) is falls =
      let none : is_some (last_with None at.images) ≡ false = ap (λ all. is_some (last_with None all)) falls.0 in
      let early : is_after_all at.marks name ≡ false = false_from_ne_true _ (λ later. false≢true (sym falls.1 ∙ sorted_push at.marks name position at.begin.names_rise later)) in
      let refused : with_mark n draft (name, position) ≡ Err (NotRising n) = rw (none, early) refl in
      said (Mark name position) is ∙ then_err (with_mark n draft (name, position)) _ (NotRising n) refused
  fall_found (Record image) is falls =
      let early : option_map_or (λ last. comes_after last image) (last_with None at.images) true ≡ false =
      false_from_ne_true _ (λ later. false≢true (sym falls.1 ∙ rise_push at.images image at.begin.images_rise later)) in
      let refused : with_image n draft image ≡ Err (NotRising n) = rw (falls.0, early) refl in
      said (Record image) is ∙ then_err (with_image n draft image) _ (NotRising n) refused
  fall_found (End count) is falls = absurd falls

  end_found : (count : ℕ) → IsLine (IsValue at.form) at.line (End count) → ¬ ((count ≡ length at.marks + length at.images) × (at.rest ≡ [])) → copy_at text ≡ Err BadEnd
  end_found count is wrong =
      let over = is_over (pieces_of at.rest) in
      let refused : (count == n - 2 && over) ≡ false =
      false_from_ne_true _ (λ both.
      let parts = and_parts (count == n - 2) over both in
      wrong (
        omega (arith, eqb-true count (n - 2) parts.0, at.number, begin_count at.lines at.form at.range at.marks at.images at.begin),
        empty at.rest (eqb-true (length at.rest) 0 (sym (is_over-pieces_of at.rest) ∙ parts.1)),
      )) in
      said (End count) is ∙ ap (λ test. if test then Ok (copy_of_draft draft) else Err BadEnd) refused
    where
      empty : (rest : List ℕ) → length rest ≡ 0 → rest ≡ []
      empty [] none = refl
      empty (b ∷ rest) none = absurd (cc)

no_head_found : (text line rest : List ℕ) → IsCut text [] line rest → head_at (BadLine 1) line ≡ Err (BadLine 1) → copy_at text ≡ Err (BadLine 1)
no_head_found text line rest cut bad =
    let whole_text : text ≡ line ++ 10 ∷ rest = cut.text_is ∙ text_cut [] line rest ∙ ap (λ t. t ++ (line ++ 10 ∷ rest)) text_of-nil in
    copy_at-bad text line rest (ap pieces_of whole_text ∙ pieces_of-line line rest (last_unbroken [] line cut.unbroken)) (BadLine 1) bad

bad_line_found : (text : List ℕ) (n : ℕ) → HasBadLine text n → copy_at text ≡ Err (BadLine n)
bad_line_found text n (inl first) =
    no_head_found text first.1.0 first.1.1 first.1.2 (head_at-none (BadLine 1) first.1.0 first.1.3)
    ∙ ap (λ m. Err (BadLine m)) (sym first.0)
bad_line_found text n (inr later) = bad_found text n later.0 later.1

cut_off_found : (text : List ℕ) → IsCutOff text → copy_at text ≡ Err Truncated
unfolding copy_at
cut_off_found text is = found is.begin
  where
    last : pieces_of is.part ≡ is.part ∷ []
    last = pieces_of-last is.part is.unbroken.1

    found : ((is.lines ≡ []) ⊎ ((form : Form) × (range : Ends) × (marks : Positions) × (images : List Image) × Begin is.lines form range marks images)) → copy_at text ≡ Err Truncated
    found (inl none) =
        ap (λ t. copy_in (pieces_of t)) (is.text_is ∙ ap (λ lines. text_of lines ++ is.part) none ∙ ap (λ t. t ++ is.part) text_of-nil) ∙ ap copy_in last
    found (inr (form, range, marks, images, begin)) =
        ap copy_at is.text_is ∙ begun_read is.lines form range marks images is.part is.unbroken.0 begin
        ∙ read_on-last form (length is.lines + 1) (drafted range marks images) (pieces_of is.part) is.part last

-- ---- and a fault that is found is there

pub cut_off : (text : List ℕ) → (copy_at text ≡ Err Truncated) ↔ IsCutOff text
cut_off text = (λ is. subst (IsRight text) is (right_at text), cut_off_found text)

pub bad_line : (text : List ℕ) (n : ℕ) → (copy_at text ≡ Err (BadLine n)) ↔ HasBadLine text n
bad_line text n = (λ is. subst (IsRight text) is (right_at text), bad_line_found text n)

pub outside_range : (text : List ℕ) (n : ℕ) → (copy_at text ≡ Err (OutsideRange n)) ↔ LeavesRange text n
outside_range text n = (λ is. subst (IsRight text) is (right_at text), λ leaves. outside_found text n leaves.0 leaves.1 leaves.2 leaves.3)

pub not_rising : (text : List ℕ) (n : ℕ) → (copy_at text ≡ Err (NotRising n)) ↔ HasFall text n
not_rising text n = (λ is. subst (IsRight text) is (right_at text), λ falls. fall_found text n falls.0 falls.1 falls.2 falls.3)

pub bad_end : (text : List ℕ) → (copy_at text ≡ Err BadEnd) ↔ HasBadEnd text
bad_end text = (λ is. subst (IsRight text) is (right_at text), λ wrong. end_found text wrong.0 wrong.1 wrong.2 wrong.3 wrong.4)

pub no_memory : (text : List ℕ) → copy_at text ≡ Err Memory → ⊥
no_memory text is = subst (IsRight text) is (right_at text)

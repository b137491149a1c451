-- The front of a copy's text is cut off.
use Rattle.std.proofs.Common.{◌≡◌, ◌≢◌, ◌⊎◌, inl, inr, ℕ, ◌+◌, ◌-◌, ◌==◌, ◌<◌, false, ◌&&◌, List, [], ◌∷◌, ◌++◌, length, All, Result, Ok, Err, refl, sym, ap, ◌∙◌, subst, append-nil, arith, length-append}
use Rattle.std.proofs.lemmas.Bool.{and_parts, false≢true}
use Rattle.std.proofs.lemmas.List.Elements.{All-head, All-tail, All-nil, All-cons}
use Rattle.pn_json.specs.Answers.{◌>>=◌}
use Rattle.pn_json.proofs.LookUps.{bind_ok, guard_ok}
use Rattle.pn_line.specs.Line.{IsUnbroken}
use Rattle.pn_line.specs.Text.{text_of}
use Rattle.pn_tablet.specs.Copies.{TabletCopyValue, DraftValue, empty_draft, copy_of_draft}
use Rattle.pn_tablet.specs.CopyReading.{head_at, line_at, pieces_of, is_over, with_mark, with_image, after, read_on, copy_in, copy_at}
use Rattle.pn_tablet.specs.CopyTexts.{IsCopyText}
use Rattle.pn_tablet.specs.declared.copy.Form.{Form}
use Rattle.pn_tablet.specs.declared.copy_line.CopyLine.{CopyLine}
use Rattle.pn_tablet.specs.declared.copy_line.CopyLine.TheVariants.{Mark, Record, End}
use Rattle.pn_tablet.specs.declared.fault.CopyTextFault.{CopyTextFault}
use Rattle.pn_tablet.specs.declared.fault.CopyTextFault.TheVariants.{Truncated, BadLine, BadEnd}
use Rattle.pn_tablet.proofs.CopySteps.{pieces_of-line, pieces_of-last, pieces_of-text, pieces_of-nil, read_on-cons, read_on-last, then_ok}
use Rattle.pn_tablet.proofs.CopyTextFacts.{text_again}

-- the pieces are some of the lines, though not all, and then a part
abbrev AreFront : List (List ℕ) → List (List ℕ) → Type 0
AreFront [] pieces = ⊥
AreFront (line ∷ lines) pieces = ((part : List ℕ) × (pieces ≡ part ∷ [])) ⊎ ((more : List (List ℕ)) × (pieces ≡ line ∷ more) × AreFront lines more)

front_some : (lines pieces : List (List ℕ)) → AreFront lines pieces → (piece : List ℕ) × (more : List (List ℕ)) × (pieces ≡ piece ∷ more)
front_some [] pieces front = absurd front
front_some (line ∷ lines) pieces (inl last) = (last.0, [], last.1)
front_some (line ∷ lines) pieces (inr first) = (line, first.0, first.1)

-- ---- reading

not_over : (lines : List (List ℕ)) (pieces : List (List ℕ)) → AreFront lines pieces → is_over (lines ++ [] ∷ []) ≡ false
not_over [] pieces front = absurd front
not_over ([] ∷ []) pieces front = refl
not_over ([] ∷ next ∷ lines) pieces front = refl
not_over ((b ∷ line) ∷ []) pieces front = refl
not_over ((b ∷ line) ∷ next ∷ lines) pieces front = refl

some_there : (lines : List (List ℕ)) → (piece : List ℕ) × (more : List (List ℕ)) × (lines ++ [] ∷ [] ≡ piece ∷ more)
some_there [] = ([], [], refl)
some_there (line ∷ lines) = (line, lines ++ [] ∷ [], refl)

module _ (form : Form) (n : ℕ) (draft : DraftValue) (line : List ℕ) (lines more : List (List ℕ)) (copy : TabletCopyValue) (front : AreFront lines more)
    (next : (longer : DraftValue) → read_on form (n + 1) longer (lines ++ [] ∷ []) ≡ Ok copy → read_on form (n + 1) longer more ≡ Err Truncated) where
  cut_line : (says : CopyLine) → line_at form (BadLine n) line ≡ Ok says → after n draft (λ longer. read_on form (n + 1) longer (lines ++ [] ∷ [])) (is_over (lines ++ [] ∷ [])) says ≡ Ok copy
      → read_on form n draft (line ∷ more) ≡ Err Truncated
  cut_line (Mark name position) said is =
      let (piece, rest, there) = front_some lines more front in
      let taken = bind_ok (with_mark n draft (name, position)) (λ longer. read_on form (n + 1) longer (lines ++ [] ∷ [])) copy is in
      read_on-cons form n draft line piece more rest there ∙ then_ok _ _ (Mark name position) said
      ∙ then_ok (with_mark n draft (name, position)) (λ longer. read_on form (n + 1) longer more) taken.0 taken.1 ∙ next taken.0 taken.2
  cut_line (Record image) said is =
      let (piece, rest, there) = front_some lines more front in
      let taken = bind_ok (with_image n draft image) (λ longer. read_on form (n + 1) longer (lines ++ [] ∷ [])) copy is in
      read_on-cons form n draft line piece more rest there ∙ then_ok _ _ (Record image) said
      ∙ then_ok (with_image n draft image) (λ longer. read_on form (n + 1) longer more) taken.0 taken.1 ∙ next taken.0 taken.2
  cut_line (End count) said is =
      let parts = guard_ok (count == n - 2 && is_over (lines ++ [] ∷ [])) (copy_of_draft draft) copy BadEnd is in
      absurd (false≢true (sym (not_over lines more front) ∙ (and_parts (count == n - 2) (is_over (lines ++ [] ∷ [])) parts.0).1))

cut_on : (form : Form) (n : ℕ) (draft : DraftValue) (lines pieces : List (List ℕ)) (copy : TabletCopyValue) → AreFront lines pieces → read_on form n draft (lines ++ [] ∷ []) ≡ Ok copy → read_on form n draft pieces ≡ Err Truncated
cut_on form n draft [] pieces copy front is = absurd front
cut_on form n draft (line ∷ lines) pieces copy (inl last) is = read_on-last form n draft pieces last.0 last.1
cut_on form n draft (line ∷ lines) pieces copy (inr first) is =
    let (piece, rest, there) = some_there lines in
    let said = bind_ok (line_at form (BadLine n) line) (after n draft (λ longer. read_on form (n + 1) longer (lines ++ [] ∷ [])) (is_over (lines ++ [] ∷ []))) copy (sym (read_on-cons form n draft line piece (lines ++ [] ∷ []) rest there) ∙ is) in
    ap (read_on form n draft) first.1
    ∙ cut_line form n draft line lines first.0 copy first.2 (λ longer. cut_on form (n + 1) longer lines first.0 copy first.2) said.0 said.1 said.2

cut_in : (head : List ℕ) (lines pieces : List (List ℕ)) (copy : TabletCopyValue) → AreFront (head ∷ lines) pieces → copy_in (head ∷ (lines ++ [] ∷ [])) ≡ Ok copy → copy_in pieces ≡ Err Truncated
cut_in head lines pieces copy (inl last) is = ap copy_in last.1
cut_in head lines pieces copy (inr first) is =
    let (piece, rest, there) = some_there lines in
    let read = bind_ok (head_at (BadLine 1) head) (λ read. read_on read.0 2 (empty_draft read.1) (lines ++ [] ∷ [])) copy (sym (head_on head (lines ++ [] ∷ []) piece rest there) ∙ is) in
    let (next, more, some) = front_some lines first.0 first.2 in
    ap copy_in first.1 ∙ head_on head first.0 next more some
    ∙ then_ok (head_at (BadLine 1) head) (λ read. read_on read.0 2 (empty_draft read.1) first.0) read.0 read.1
    ∙ cut_on read.0.0 2 (empty_draft read.0.1) lines first.0 copy first.2 read.2
  where
    head_on : (head : List ℕ) (pieces : List (List ℕ)) (piece : List ℕ) (more : List (List ℕ)) → pieces ≡ piece ∷ more → copy_in (head ∷ pieces) ≡ (head_at (BadLine 1) head >>= (λ read. read_on read.0 2 (empty_draft read.1) pieces))
    head_on head pieces piece more is = rw is refl

-- ---- the pieces of a front

-- a front of a line with its newline ends in the line, or has it whole
front_split : (front back line rest : List ℕ) → front ++ back ≡ line ++ 10 ∷ rest → ((e : List ℕ) × (line ≡ front ++ e)) ⊎ ((e : List ℕ) × (front ≡ line ++ 10 ∷ e) × (e ++ back ≡ rest))
front_split [] back line rest is = inl (line, refl)
front_split (b ∷ front) back [] rest is = let first : b ≡ 10 = cc in let later : front ++ back ≡ rest = cc in inr (front, ap (λ x. x ∷ front) first, later)
front_split (b ∷ front) back (x ∷ line) rest is =
    let first : b ≡ x = cc in
    let later : front ++ back ≡ line ++ 10 ∷ rest = cc in
    elim (front_split front back line rest later) as (λ _. ((e : List ℕ) × (x ∷ line ≡ (b ∷ front) ++ e)) ⊎ ((e : List ℕ) × (b ∷ front ≡ (x ∷ line) ++ 10 ∷ e) × (e ++ back ≡ rest))) [
      | inl inside ↦ inl (inside.0, (λ i. (sym first) i ∷ inside.1 i))
      | inr beyond ↦ inr (beyond.0, (λ i. first i ∷ beyond.1 i), beyond.2)
    ]

unbroken-front : (front back : List ℕ) → IsUnbroken (front ++ back) → IsUnbroken front
unbroken-front [] back unbroken = All-nil (λ x. x ≢ 10)
unbroken-front (b ∷ front) back unbroken =
    All-cons (λ x. x ≢ 10) b front (All-head (λ x. x ≢ 10) b (front ++ back) unbroken) (unbroken-front front back (All-tail (λ x. x ≢ 10) b (front ++ back) unbroken))

front_of : (lines : List (List ℕ)) (front back : List ℕ) → All IsUnbroken lines → front ++ back ≡ text_of lines → 0 < length back → AreFront lines (pieces_of front)
unfolding text_of
front_of [] front back unbroken is some = absurd (let none : length front + length back ≡ 0 = sym (length-append front back) ∙ ap length is in omega (arith, none, some))
front_of (line ∷ lines) front back unbroken is some =
    elim (front_split front back line (text_of lines) is) as (λ _. AreFront (line ∷ lines) (pieces_of front)) [
      | inl inside ↦ inl (front, pieces_of-last front (unbroken-front front inside.0 (subst IsUnbroken inside.1 (All-head IsUnbroken line lines unbroken))))
      | inr beyond ↦ inr (pieces_of beyond.0, ap pieces_of beyond.1 ∙ pieces_of-line line beyond.0 (All-head IsUnbroken line lines unbroken), front_of lines beyond.0 back (All-tail IsUnbroken line lines unbroken) beyond.2 some)
    ]

-- what is left of a copy's text without its end is cut off
pub prefix_truncated : (front back : List ℕ) (copy : TabletCopyValue) → IsCopyText (front ++ back) copy → 0 < length back → copy_at front ≡ Err Truncated
unfolding copy_at
prefix_truncated front back copy is some =
    let all : pieces_of (front ++ back) ≡ is.head ∷ (is.lines ++ [] ∷ []) =
    ap pieces_of (is.text_is ∙ sym (append-nil (text_of (is.head ∷ is.lines)))) ∙ pieces_of-text (is.head ∷ is.lines) [] is.unbroken ∙ ap (λ rest. (is.head ∷ is.lines) ++ rest) pieces_of-nil in
    cut_in is.head is.lines (pieces_of front) copy (front_of (is.head ∷ is.lines) front back is.unbroken is.text_is some) (ap copy_in (sym all) ∙ text_again (front ++ back) copy is)

-- so it spells no copy
pub no_prefix : (front back : List ℕ) (copy other : TabletCopyValue) → IsCopyText (front ++ back) copy → 0 < length back → IsCopyText front other → ⊥
no_prefix front back copy other is some also = apart (sym (prefix_truncated front back copy is some) ∙ text_again front other also)
  where
    apart : ◌≡◌ {A = Result TabletCopyValue CopyTextFault} (Err Truncated) (Ok other) → ⊥
    apart is = cc

pub one_copy : (text : List ℕ) (one other : TabletCopyValue) → IsCopyText text one → IsCopyText text other → one ≡ other
one_copy text one other first second = same_ok (sym (text_again text one first) ∙ text_again text other second)
  where
    same_ok : ◌≡◌ {A = Result TabletCopyValue CopyTextFault} (Ok one) (Ok other) → one ≡ other
    same_ok is = cc

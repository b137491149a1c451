-- The pieces of a copy's text between its newlines, and one line after another.
use Rattle.std.proofs.Common.{◌≡◌, ◌≢◌, ℕ, suc, ◌+◌, ◌-◌, ◌<◌, List, [], ◌∷◌, ◌++◌, length, All, false, Some, None, take, drop, if◌then◌else◌, ◌==◌, refl, sym, ap, ◌∙◌, append_assoc, ne_eqb, arith, ⊎_elim, eq-eqb, eqb-true, get_or, get_or-take, add-one, true, Result, Ok, Err, IsErrAnd, subst}
use Rattle.std.proofs.Math.Seq.{split_at}
use Rattle.std.proofs.lemmas.Bool.{cases_eq, and_parts}
use Rattle.std.proofs.lemmas.List.{length-take, length-drop, take_all}
use Rattle.std.proofs.lemmas.List.Elements.{All-head, All-tail, All-from_get_or}
use Rattle.memchr.specs.Find.{IsFirstByte, is_byte}
use Rattle.pn_line.specs.Line.{IsUnbroken}
use Rattle.pn_line.specs.Text.{text_of, onto_first}
use Rattle.pn_join.specs.Marks.{is_position}
use Rattle.pn_join.specs.Naming.{is_name}
use Rattle.pn_json.specs.Answers.{◌>>=◌, IsUnless}
use Rattle.pn_tablet.specs.CopyReading.{pieces_of, is_over, after, read_on, copy_in, copy_at, head_at, line_at}
use Rattle.pn_tablet.specs.CopyTexts.{is_memory, Head}
use Rattle.pn_tablet.specs.Copies.{DraftValue, empty_draft}
use Rattle.pn_tablet.specs.Steps.{Answers, Refuses}
use Rattle.pn_tablet.specs.declared.copy.Form.{Form}
use Rattle.pn_tablet.specs.declared.copy_line.CopyLine.{CopyLine}
use Rattle.pn_tablet.specs.declared.copy_line.CopyLine.TheVariants.{Mark}
use Rattle.pn_tablet.specs.declared.fault.CopyTextFault.{CopyTextFault}
use Rattle.pn_tablet.specs.declared.fault.CopyTextFault.TheVariants.{Truncated, BadLine, OutsideRange, NotRising, BadEnd, Memory}
use Rattle.pn_tablet.proofs.CopyValues.{line_at-found}

-- The pieces of a text between its newlines.

pub pieces_of-nil : pieces_of [] ≡ [] ∷ []
unfolding pieces_of
pieces_of-nil = refl

pub pieces_of-newline : (rest : List ℕ) → pieces_of (10 ∷ rest) ≡ [] ∷ pieces_of rest
unfolding pieces_of
pieces_of-newline rest = refl

pub pieces_of-byte : (b : ℕ) (rest : List ℕ) → b ≢ 10 → pieces_of (b ∷ rest) ≡ onto_first b (pieces_of rest)
unfolding pieces_of
pieces_of-byte b rest other = ap (λ test. if test then [] ∷ pieces_of rest else onto_first b (pieces_of rest)) (ne_eqb b 10 other)

-- a line with its newline is the first piece
pub pieces_of-line : (line rest : List ℕ) → IsUnbroken line → pieces_of (line ++ 10 ∷ rest) ≡ line ∷ pieces_of rest
pieces_of-line [] rest unbroken = pieces_of-newline rest
pieces_of-line (b ∷ line) rest unbroken =
    pieces_of-byte b (line ++ 10 ∷ rest) (All-head (λ x. x ≢ 10) b line unbroken)
    ∙ ap (onto_first b) (pieces_of-line line rest (All-tail (λ x. x ≢ 10) b line unbroken))

-- what has no newline is one piece
pub pieces_of-last : (text : List ℕ) → IsUnbroken text → pieces_of text ≡ text ∷ []
pieces_of-last [] unbroken = pieces_of-nil
pieces_of-last (b ∷ text) unbroken =
    pieces_of-byte b text (All-head (λ x. x ≢ 10) b text unbroken)
    ∙ ap (onto_first b) (pieces_of-last text (All-tail (λ x. x ≢ 10) b text unbroken))

-- the pieces of some lines' text and more are those lines, and the pieces of the rest
pub pieces_of-text : (lines : List (List ℕ)) (rest : List ℕ) → All IsUnbroken lines → pieces_of (text_of lines ++ rest) ≡ lines ++ pieces_of rest
unfolding text_of
pieces_of-text [] rest unbroken = refl
pieces_of-text (line ∷ lines) rest unbroken =
    ap pieces_of (append_assoc line (10 ∷ text_of lines) rest)
    ∙ pieces_of-line line (text_of lines ++ rest) (All-head IsUnbroken line lines unbroken)
    ∙ ap (λ ls. line ∷ ls) (pieces_of-text lines rest (All-tail IsUnbroken line lines unbroken))

onto_first-some : (b : ℕ) (pieces : List (List ℕ)) → (piece : List ℕ) × (more : List (List ℕ)) × (onto_first b pieces ≡ (b ∷ piece) ∷ more)
onto_first-some b [] = ([], [], refl)
onto_first-some b (piece ∷ more) = (piece, more, refl)

-- there is a piece
pub pieces_of-some : (text : List ℕ) → (piece : List ℕ) × (more : List (List ℕ)) × (pieces_of text ≡ piece ∷ more)
pieces_of-some [] = ([], [], pieces_of-nil)
pieces_of-some (b ∷ text) =
    ⊎_elim
    (λ (is : b ≡ 10). ([], pieces_of text, rw is (pieces_of-newline text)))
    (λ (other : b ≢ 10).
    let (piece, more, first) = onto_first-some b (pieces_of text) in
    (b ∷ piece, more, pieces_of-byte b text other ∙ first))
    (cases_eq b 10)

-- a text of a line and a rest is no single piece
pub two_pieces : (text line rest : List ℕ) → pieces_of text ≡ line ∷ pieces_of rest → pieces_of text ≡ text ∷ [] → ⊥
two_pieces text line rest cut one =
    let (piece, more, is) = pieces_of-some rest in
    let both : 1 ≡ suc (suc (length more)) = ap length (sym one ∙ cut) ∙ ap (λ pieces. suc (length pieces)) is in
    omega (arith, both)

is_over-two : (first : List ℕ) (pieces more : List (List ℕ)) (piece : List ℕ) → pieces ≡ piece ∷ more → is_over (first ∷ pieces) ≡ false
is_over-two [] pieces more piece is = ap (λ rest. is_over ([] ∷ rest)) is
is_over-two (b ∷ first) pieces more piece is = ap (λ rest. is_over ((b ∷ first) ∷ rest)) is

is_over-byte : (b : ℕ) (pieces : List (List ℕ)) → is_over (onto_first b pieces) ≡ false
is_over-byte b [] = refl
is_over-byte b (piece ∷ []) = refl
is_over-byte b (piece ∷ next ∷ more) = refl

-- nothing is left exactly where the text is empty
pub is_over-pieces_of : (text : List ℕ) → is_over (pieces_of text) ≡ (length text == 0)
is_over-pieces_of [] = rw pieces_of-nil refl
is_over-pieces_of (b ∷ text) =
    ⊎_elim
    (λ (is : b ≡ 10).
    let (piece, more, first) = pieces_of-some text in
    ap is_over (ap (λ x. pieces_of (x ∷ text)) is ∙ pieces_of-newline text) ∙ is_over-two [] (pieces_of text) more piece first ∙ sym (ne_eqb (length (b ∷ text)) 0 (λ e. omega (arith, e))))
    (λ (other : b ≢ 10). ap is_over (pieces_of-byte b text other) ∙ is_over-byte b (pieces_of text) ∙ sym (ne_eqb (length (b ∷ text)) 0 (λ e. omega (arith, e))))
    (cases_eq b 10)

-- ---- what a search for a newline finds

IsUnbroken-none : (text : List ℕ) → IsFirstByte (is_byte 10) text None → IsUnbroken text
IsUnbroken-none text none = All-from_get_or (λ b. b ≢ 10) text 0 (λ k below is. none k (omega arith) below (eq-eqb _ _ is))

IsUnbroken-before : (text : List ℕ) (at : ℕ) → IsFirstByte (is_byte 10) text (Some at) → IsUnbroken (take at text)
IsUnbroken-before text at found =
    All-from_get_or (λ b. b ≢ 10) (take at text) 0
    (λ k below is.
    let before : k < at = omega (arith, length-take at text) in
    found.0.before k (omega arith) before (eq-eqb _ _ (sym (get_or-take at text k 0 before) ∙ is)))

cut_there : (text : List ℕ) (at : ℕ) → at < length text → get_or text at 0 ≡ 10 → text ≡ take at text ++ 10 ∷ drop (at + 1) text
cut_there text at within is = split_at text at 0 within ∙ rw (is, add-one at) refl

-- without a newline the text is one piece
pub pieces-none : (text : List ℕ) → IsFirstByte (is_byte 10) text None → pieces_of text ≡ text ∷ []
pieces-none text none = pieces_of-last text (IsUnbroken-none text none)

-- before the first newline is the first piece, and after it are the others
pub pieces-cut : (text : List ℕ) (at : ℕ) → IsFirstByte (is_byte 10) text (Some at) → pieces_of text ≡ take at text ∷ pieces_of (drop (at + 1) text)
pieces-cut text at found =
    ap pieces_of (cut_there text at found.0.high (eqb-true _ _ found.1))
    ∙ pieces_of-line (take at text) (drop (at + 1) text) (IsUnbroken-before text at found)

-- the rest of a list after an index
pub rest_whole : (at : ℕ) (text : List ℕ) → take (length text - at) (drop at text) ≡ drop at text
rest_whole at text = take_all (length text - at) (drop at text) (omega (arith, length-drop at text))

pub rest_shorter : (text : List ℕ) (at : ℕ) → IsFirstByte (is_byte 10) text (Some at) → length (drop (at + 1) text) < length text
rest_shorter text at found = omega (arith, length-drop (at + 1) text, found.0.high)

-- One line of a copy's text after another.

-- what a line that is followed by pieces comes to
pub read_on-cons : (form : Form) (n : ℕ) (draft : DraftValue) (line piece : List ℕ) (pieces more : List (List ℕ)) → pieces ≡ piece ∷ more
    → read_on form n draft (line ∷ pieces) ≡ (line_at form (BadLine n) line >>= after n draft (λ longer. read_on form (n + 1) longer pieces) (is_over pieces))
unfolding read_on
read_on-cons form n draft line piece pieces more is = rw is refl

module _ (form : Form) (n : ℕ) (draft : DraftValue) (pieces : List (List ℕ)) (line rest : List ℕ) (cut : pieces ≡ line ∷ pieces_of rest) where
  step : read_on form n draft pieces ≡ (line_at form (BadLine n) line >>= after n draft (λ longer. read_on form (n + 1) longer (pieces_of rest)) (is_over (pieces_of rest)))
  step =
      let (piece, more, is) = pieces_of-some rest in
      ap (read_on form n draft) cut ∙ read_on-cons form n draft line piece (pieces_of rest) more is

  -- a line that has no meaning there ends the reading
  pub read_on-bad : (fault : CopyTextFault) → line_at form (BadLine n) line ≡ Err fault → read_on form n draft pieces ≡ Err fault
  read_on-bad fault is = step ∙ rw is refl

  -- and one that has is taken
  pub read_on-said : (says : CopyLine) → line_at form (BadLine n) line ≡ Ok says → read_on form n draft pieces ≡ after n draft (λ longer. read_on form (n + 1) longer (pieces_of rest)) (is_over (pieces_of rest)) says
  read_on-said says is = step ∙ rw is refl

-- a text without a whole line is cut off
pub read_on-last : (form : Form) (n : ℕ) (draft : DraftValue) (pieces : List (List ℕ)) (part : List ℕ) → pieces ≡ part ∷ [] → read_on form n draft pieces ≡ Err Truncated
unfolding read_on
read_on-last form n draft pieces part is = rw is refl

pub then_ok : {A B E : Type 0} (read : Result A E) (next : A → Result B E) (a : A) → read ≡ Ok a → (read >>= next) ≡ next a
then_ok read next a is = rw is refl

pub then_err : {A B E : Type 0} (read : Result A E) (next : A → Result B E) (e : E) → read ≡ Err e → (read >>= next) ≡ Err e
then_err read next e is = rw is refl

-- a fault that is returned, and an answer for what is left
pub passed_on : {A : Type 0} (result right : Result A CopyTextFault) (fault : CopyTextFault) → IsErrAnd result (λ other. other ≡ fault) → (fault ≢ Memory → right ≡ Err fault) → IsUnless Memory result right
passed_on (Ok value) right fault is refused = absurd is
passed_on (Err other) right fault is refused = subst (λ (f : CopyTextFault). f ≢ Memory → right ≡ Err f) (sym is) refused

pub same_right : {A : Type 0} (result right other : Result A CopyTextFault) → right ≡ other → IsUnless Memory result right → IsUnless Memory result other
same_right {A = A} result right other is answers = subst (λ (r : Result A CopyTextFault). IsUnless Memory result r) is answers

-- a refusal is right, but for memory
pub refused_right : {A : Type 0} (fault : CopyTextFault) (right : Result A CopyTextFault) → Refuses is_memory fault right → fault ≢ Memory → right ≡ Err fault
refused_right Truncated right is other = is
refused_right (BadLine n) right is other = is
refused_right (OutsideRange n) right is other = is
refused_right (NotRising n) right is other = is
refused_right BadEnd right is other = is
refused_right Memory right is other = absurd (other refl)

pub unless_memory : {A : Type 0} (result right : Result A CopyTextFault) → Answers is_memory result right → IsUnless Memory result right
unless_memory (Ok value) right is = is
unless_memory (Err fault) right is = refused_right fault right is

-- the position of a mark that a line says is one of a message
pub mark_position : (form : Form) (fault : CopyTextFault) (line name : List ℕ) (position : ℕ) → line_at form fault line ≡ Ok (Mark name position) → is_position position ≡ true
mark_position form fault line name position is = (and_parts (is_name name) (is_position position) (line_at-found fault form line (Mark name position) is).spelled.1).1

-- ---- the head

head_on : (head : List ℕ) (pieces : List (List ℕ)) (piece : List ℕ) (more : List (List ℕ)) → pieces ≡ piece ∷ more → copy_in (head ∷ pieces) ≡ (head_at (BadLine 1) head >>= (λ read. read_on read.0 2 (empty_draft read.1) pieces))
head_on head pieces piece more is = rw is refl

module _ (text head rest : List ℕ) (cut : pieces_of text ≡ head ∷ pieces_of rest) where
  begins : copy_at text ≡ (head_at (BadLine 1) head >>= (λ read. read_on read.0 2 (empty_draft read.1) (pieces_of rest)))
  unfolding copy_at
  begins =
      let (piece, more, is) = pieces_of-some rest in
      ap copy_in cut ∙ head_on head (pieces_of rest) piece more is

  pub copy_at-bad : (fault : CopyTextFault) → head_at (BadLine 1) head ≡ Err fault → copy_at text ≡ Err fault
  copy_at-bad fault is = begins ∙ rw is refl

  pub copy_at-empty_draft : (says : Head) → head_at (BadLine 1) head ≡ Ok says → copy_at text ≡ read_on says.0 2 (empty_draft says.1) (pieces_of rest)
  copy_at-empty_draft says is = begins ∙ rw is refl

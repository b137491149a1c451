-- The lines of a text, one after another, and what reading one says of known bytes.
use Rattle.std.proofs.Common.{◌≡◌, ◌≢◌, ℕ, List, [], ◌∷◌, ◌++◌, length, ◌≤◌, All, refl, sym, ap, ◌∙◌, append_assoc, ne_eqb, arith, ⊎_elim, if◌then◌else◌, Option, None, Some, append-nil, OnSome}
use Rattle.std.proofs.lemmas.Bool.{cases_eq}
use Rattle.std.proofs.lemmas.List.Elements.{All-head, All-tail, All-nil, All-cons, All-append}
use Rattle.std.specs.Io.KnownBytes.{Consumes, IsAtEnd}
use Rattle.pn_line.specs.Line.{IsUnbroken, Takes, LineBufferValue, so_far}
use Rattle.pn_line.specs.Text.{lines_of, text_of, onto_first, last_line, LinesRead, PartRead}
use Rattle.pn_line.proofs.LineLaws.{so_far-append}

-- The first line of a text, and the lines after it.

pub lines_of-nil : lines_of [] ≡ []
unfolding lines_of
lines_of-nil = refl

-- a newline first ends an empty line
lines_of-newline : (rest : List ℕ) → lines_of (10 ∷ rest) ≡ [] ∷ lines_of rest
unfolding lines_of
lines_of-newline rest = refl

-- another byte first begins the first line
pub lines_of-byte : (b : ℕ) (rest : List ℕ) → b ≢ 10 → lines_of (b ∷ rest) ≡ onto_first b (lines_of rest)
unfolding lines_of
lines_of-byte b rest other = ap (λ test. if test then [] ∷ lines_of rest else onto_first b (lines_of rest)) (ne_eqb b 10 other)

-- a line with its newline is the first line
pub lines_of-line : (line rest : List ℕ) → IsUnbroken line → lines_of (line ++ 10 ∷ rest) ≡ line ∷ lines_of rest
lines_of-line [] rest unbroken = lines_of-newline rest
lines_of-line (b ∷ line) rest unbroken =
    lines_of-byte b (line ++ 10 ∷ rest) (All-head (λ x. x ≢ 10) b line unbroken)
    ∙ ap (onto_first b) (lines_of-line line rest (All-tail (λ x. x ≢ 10) b line unbroken))

-- what has no newline is one line
pub lines_of-last : (b : ℕ) (line : List ℕ) → IsUnbroken (b ∷ line) → lines_of (b ∷ line) ≡ (b ∷ line) ∷ []
lines_of-last b [] unbroken = lines_of-byte b [] (All-head (λ x. x ≢ 10) b [] unbroken) ∙ ap (onto_first b) lines_of-nil
lines_of-last b (c ∷ line) unbroken =
    lines_of-byte b (c ∷ line) (All-head (λ x. x ≢ 10) b (c ∷ line) unbroken)
    ∙ ap (onto_first b) (lines_of-last c line (All-tail (λ x. x ≢ 10) b (c ∷ line) unbroken))

pub text_of-nil : text_of [] ≡ []
unfolding text_of
text_of-nil = refl

pub text_of-cons : (line : List ℕ) (lines : List (List ℕ)) → text_of (line ∷ lines) ≡ line ++ 10 ∷ text_of lines
unfolding text_of
text_of-cons line lines = refl

-- the text of some lines and then others
pub text_of-append : (lines more : List (List ℕ)) → text_of (lines ++ more) ≡ text_of lines ++ text_of more
unfolding text_of
text_of-append [] more = refl
text_of-append (line ∷ lines) more = ap (λ l. line ++ 10 ∷ l) (text_of-append lines more) ∙ sym (append_assoc line (10 ∷ text_of lines) (text_of more))

-- one line more
pub text_of-push : (lines : List (List ℕ)) (line : List ℕ) → text_of (lines ++ line ∷ []) ≡ text_of lines ++ (line ++ 10 ∷ [])
unfolding text_of
text_of-push lines line = text_of-append lines (line ∷ [])

-- the lines of some lines' text and more are those, and the lines of the rest
pub lines_of-text : (lines : List (List ℕ)) (rest : List ℕ) → All IsUnbroken lines → lines_of (text_of lines ++ rest) ≡ lines ++ lines_of rest
unfolding text_of
lines_of-text [] rest unbroken = refl
lines_of-text (line ∷ lines) rest unbroken =
    ap lines_of (append_assoc line (10 ∷ text_of lines) rest)
    ∙ lines_of-line line (text_of lines ++ rest) (All-head IsUnbroken line lines unbroken)
    ∙ ap (λ ls. line ∷ ls) (lines_of-text lines rest (All-tail IsUnbroken line lines unbroken))

-- a byte before the first of some lines without newlines
onto_first-unbroken : (b : ℕ) (lines : List (List ℕ)) → b ≢ 10 → All IsUnbroken lines → All IsUnbroken (onto_first b lines)
onto_first-unbroken b [] other unbroken = All-cons IsUnbroken (b ∷ []) [] (All-cons (λ x. x ≢ 10) b [] other (All-nil (λ x. x ≢ 10))) (All-nil IsUnbroken)
onto_first-unbroken b (line ∷ lines) other unbroken =
    All-cons IsUnbroken (b ∷ line) lines
    (All-cons (λ x. x ≢ 10) b line other (All-head IsUnbroken line lines unbroken))
    (All-tail IsUnbroken line lines unbroken)

-- no line of a text has a newline
pub IsUnbroken-lines_of : (text : List ℕ) → All IsUnbroken (lines_of text)
IsUnbroken-lines_of [] = rw lines_of-nil (All-nil IsUnbroken)
IsUnbroken-lines_of (b ∷ text) =
    ⊎_elim
    (λ (is : b ≡ 10). rw (is, lines_of-newline) (All-cons IsUnbroken [] (lines_of text) (All-nil (λ x. x ≢ 10)) (IsUnbroken-lines_of text)))
    (λ (other : b ≢ 10). let first = lines_of-byte b text other in rw first (onto_first-unbroken b (lines_of text) other (IsUnbroken-lines_of text)))
    (cases_eq b 10)

-- the first line of a text begins with the bytes before its first newline
pub lines_of-begun : (b : ℕ) (part rest : List ℕ) → IsUnbroken (b ∷ part) → (line : List ℕ) × (more : List (List ℕ)) × (lines_of ((b ∷ part) ++ rest) ≡ line ∷ more) × (length (b ∷ part) ≤ length line)
lines_of-begun b [] rest unbroken = begun (lines_of rest) (lines_of-byte b rest (All-head (λ x. x ≢ 10) b [] unbroken))
  where
    begun : (lines : List (List ℕ)) → lines_of (b ∷ rest) ≡ onto_first b lines → (line : List ℕ) × (more : List (List ℕ)) × (lines_of (b ∷ rest) ≡ line ∷ more) × (1 ≤ length line)
    begun [] is = (b ∷ [], [], is, omega arith)
    begun (line ∷ lines) is = (b ∷ line, lines, is, omega arith)
lines_of-begun b (c ∷ part) rest unbroken =
    let (line, more, is, long) = lines_of-begun c part rest (All-tail (λ x. x ≢ 10) b (c ∷ part) unbroken) in
    (b ∷ line, more, lines_of-byte b ((c ∷ part) ++ rest) (All-head (λ x. x ≢ 10) b (c ∷ part) unbroken) ∙ ap (onto_first b) is, omega (arith, long))

-- What reading a line says of known bytes: the line, the text after it, and the lines of it all.

-- of a line with this part and this text after it: what was taken, and the text that is left
pub record ReadsPart (part text : List ℕ) (new : LineBufferValue) (leaves : Option (List ℕ)) (after : List ℕ) : Type 0 where
  pub taken : List ℕ
  pub rest : List ℕ
  pub unbroken : IsUnbroken (part ++ taken)
  pub line : new ≡ so_far (part ++ taken)
  pub text_is : text ≡ taken ++ (after ++ rest)
  pub leaves_is : leaves ≡ Some rest

-- known bytes that some bytes were taken of stay known
still_known : (xs bs : List ℕ) (leaves : Option (List ℕ)) → Consumes (Some xs) leaves bs → (ys : List ℕ) × (leaves ≡ Some ys) × (xs ≡ bs ++ ys)
still_known xs bs None consumed = absurd consumed
still_known xs bs (Some ys) consumed = (ys, refl, consumed)

pub ReadsPart-from_takes : (part text : List ℕ) {new : LineBufferValue} {leaves : Option (List ℕ)} {after : List ℕ} → IsUnbroken part
    → Takes (so_far part) new (Some text) leaves after → ReadsPart part text new leaves after
ReadsPart-from_takes part text {after = after} unbroken takes =
    let (rest, leaves_is, text_is) = still_known text _ _ takes.source in
    record {
      taken = takes.taken;
      rest = rest;
      unbroken = All-append (λ b. b ≢ 10) part takes.taken unbroken takes.unbroken;
      line = takes.line ∙ so_far-append part takes.taken;
      text_is = text_is ∙ append_assoc takes.taken after rest;
      leaves_is = leaves_is;
    }

-- a line with its newline is the first line
pub lines_of-read : (part text : List ℕ) {new : LineBufferValue} {leaves : Option (List ℕ)} (read : ReadsPart part text new leaves (10 ∷ []))
    → lines_of (part ++ text) ≡ (part ++ read.taken) ∷ lines_of read.rest
lines_of-read part text read =
    ap (λ t. lines_of (part ++ t)) read.text_is ∙ ap lines_of (sym (append_assoc part read.taken (10 ∷ read.rest)))
    ∙ lines_of-line (part ++ read.taken) read.rest read.unbroken

-- the lines of a text without newline
lines_of-unbroken : (line : List ℕ) → IsUnbroken line → lines_of line ≡ last_line line
lines_of-unbroken [] unbroken = lines_of-nil
lines_of-unbroken (b ∷ line) unbroken = lines_of-last b line unbroken

-- at the end of the input all the text is in the line
pub text_of-read_end : (part text : List ℕ) {new : LineBufferValue} (leaves : Option (List ℕ)) (read : ReadsPart part text new leaves []) → IsAtEnd leaves → text ≡ read.taken
text_of-read_end part text None read end = absurd (none read.leaves_is)
  where
    none : None ≡ Some read.rest → ⊥
    none e = cc
text_of-read_end part text (Some ys) read end =
    let rest : read.rest ≡ [] = cc in read.text_is ∙ ap (λ l. read.taken ++ l) rest ∙ append-nil read.taken

-- and the line is the last one, if it has a byte
pub lines_of-read_end : (part text : List ℕ) {new : LineBufferValue} (leaves : Option (List ℕ)) (read : ReadsPart part text new leaves []) → IsAtEnd leaves
    → lines_of (part ++ text) ≡ last_line (part ++ read.taken)
lines_of-read_end part text leaves read end =
    ap (λ t. lines_of (part ++ t)) (text_of-read_end part text leaves read end) ∙ lines_of-unbroken (part ++ read.taken) read.unbroken

-- A text of which one line after another is read.

-- before the first line nothing was read
pub LinesRead-none : (text : List ℕ) → LinesRead text (Some text) []
LinesRead-none text = record { rest = text; unbroken = All-nil IsUnbroken; text_is = ap (λ l. l ++ text) (sym text_of-nil); left_is = refl }

-- what reading the next line says of the bytes that are left
next : {text : List ℕ} {left : Option (List ℕ)} {lines : List (List ℕ)} {line : LineBufferValue} {leaves : Option (List ℕ)} {after : List ℕ}
    → (read : LinesRead text left lines) → Takes (so_far []) line left leaves after → ReadsPart [] read.rest line leaves after
next read takes = ReadsPart-from_takes [] read.rest (All-nil (λ b. b ≢ 10)) (rw read.left_is at takes)

-- one line more
pub LinesRead-line : {text : List ℕ} {left : Option (List ℕ)} {lines : List (List ℕ)} {line : LineBufferValue} {leaves : Option (List ℕ)} → LinesRead text left lines
    → Takes (so_far []) line left leaves (10 ∷ []) → (taken : List ℕ) × (line ≡ so_far taken) × LinesRead text leaves (lines ++ taken ∷ [])
LinesRead-line {text = text} {lines = lines} read takes =
    let part = next read takes in
    let all : text ≡ text_of lines ++ (part.taken ++ 10 ∷ part.rest) = read.text_is ∙ ap (λ l. text_of lines ++ l) part.text_is in
    let whole : text_of lines ++ (part.taken ++ 10 ∷ part.rest) ≡ text_of (lines ++ part.taken ∷ []) ++ part.rest =
    ap (λ l. text_of lines ++ l) (sym (append_assoc part.taken (10 ∷ []) part.rest))
    ∙ sym (append_assoc (text_of lines) (part.taken ++ 10 ∷ []) part.rest)
    ∙ ap (λ l. l ++ part.rest) (sym (text_of-push lines part.taken)) in (
      part.taken,
      part.line,
      record {
        rest = part.rest;
        unbroken = All-append IsUnbroken lines _ read.unbroken (All-cons IsUnbroken part.taken [] part.unbroken (All-nil IsUnbroken));
        text_is = all ∙ whole;
        left_is = part.leaves_is;
      },
    )

-- the last line, at the end of the input
pub LinesRead-end : {text : List ℕ} {left : Option (List ℕ)} {lines : List (List ℕ)} {line : LineBufferValue} (leaves : Option (List ℕ)) → LinesRead text left lines
    → Takes (so_far []) line left leaves [] → OnSome left (IsAtEnd leaves) → (taken : List ℕ) × (line ≡ so_far taken) × (lines_of text ≡ lines ++ last_line taken)
LinesRead-end {lines = lines} leaves read takes end =
    let part = next read takes in
    let ended : IsAtEnd leaves = rw read.left_is at end in (
      part.taken,
      part.line,
      ap lines_of read.text_is ∙ lines_of-text lines read.rest read.unbroken ∙ ap (λ l. lines ++ l) (lines_of-read_end [] read.rest leaves part ended),
    )

-- a part of a line, where a read failed or a line has no end
pub LinesRead-part : {text : List ℕ} {left : Option (List ℕ)} {lines : List (List ℕ)} {line : LineBufferValue} {leaves : Option (List ℕ)} → LinesRead text left lines
    → Takes (so_far []) line left leaves [] → (taken : List ℕ) × (line ≡ so_far taken) × PartRead text leaves lines taken
LinesRead-part {lines = lines} read takes =
    let part = next read takes in (
      part.taken,
      part.line,
      record {
        rest = part.rest;
        unbroken = read.unbroken;
        part_unbroken = part.unbroken;
        text_is = read.text_is ∙ ap (λ l. text_of lines ++ l) part.text_is;
        left_is = part.leaves_is;
      },
    )

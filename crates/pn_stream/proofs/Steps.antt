-- What reading to the end of a line says of the text that is left of a stream.
use Rattle.std.proofs.Common.{◌≡◌, ◌≢◌, ℕ, ◌≤◌, ◌^◌, List, [], ◌∷◌, ◌++◌, length, Bool, Option, None, Some, IfSome, Result, Ok, Err, IfOk, IfErr, nat_le, refl, sym, ap, ◌∙◌, subst, arith, append_assoc}
use Rattle.std.proofs.lemmas.Bool.{and_parts}
use Rattle.std.proofs.lemmas.List.Elements.{All-nil, All-append}
use Rattle.pn_line.specs.Line.{LineBufferValue, with_bytes, so_far, ReadsTo, IsUnbroken, Takes}
use Rattle.pn_line.specs.declared.reading.BoundedEnd.{BoundedEnd}
use Rattle.pn_line.specs.declared.reading.BoundedEnd.TheVariants.{Newline, EndOfInput, TooLong}
use Rattle.pn_line.proofs.LineLaws.{kept_bytes-short, kept_bytes-nil, so_far-append}
use Rattle.pn_line.proofs.TextLaws.{ReadsPart-from_takes, text_of-read_end}
use Rattle.pn_record.specs.declared.records.Image.{Image}
use Rattle.pn_stream.specs.Messages.{IsMessageLine, Message, message_at}
use Rattle.pn_stream.specs.Streams.{FirstLine, NoLine, line_ended, message_due, Refuses, Stands}
use Rattle.pn_record.specs.declared.fault.ImageFault.{ImageFault}
use Rattle.pn_record.specs.declared.fault.ImageFault.TheVariants as image
use Rattle.pn_json.specs.Answers.{IsUnless}
use Rattle.pn_stream.specs.Batches.{IsPart, IsNext, part_of}
use Rattle.pn_stream.specs.declared.fault.StreamFault.{StreamFault}
use Rattle.pn_stream.specs.declared.next.NextMessage.{NextMessage}
use Rattle.pn_stream.specs.declared.fault.StreamFault.TheVariants.{Read, LineTooLong, BadMessage, OutOfStep, Memory, Failed}

-- a line that holds a part, by its bytes
held : (line new : LineBufferValue) (left leaves : Option (List ℕ)) (after : List ℕ) → IsPart line → Takes line new left leaves after → Takes (so_far line.bytes) new left leaves after
held line new left leaves after is takes = subst (λ (l : LineBufferValue). Takes l new left leaves after) is.line_is takes

-- a line that is not too long is kept whole
whole : (new : LineBufferValue) (bytes : List ℕ) → new ≡ so_far bytes → new.count ≤ 65536 → (new.bytes ≡ bytes) × (length bytes ≤ 65536)
whole new bytes is short =
    let count : new.count ≡ length bytes = ap (λ (l : LineBufferValue). l.count) is in
    let fits : length bytes ≤ 65536 = omega (arith, count, short) in
    (ap (λ (l : LineBufferValue). l.bytes) is ∙ kept_bytes-short bytes fits, fits)

-- a line with these bytes, none of them a newline, is a part of one
part_from : (new : LineBufferValue) (bytes : List ℕ) → new ≡ so_far bytes → new.count ≤ 65536 → IsUnbroken bytes → IsPart new
part_from new bytes is short unbroken =
    let (front, fits) = whole new bytes is short in
    record { line_is = is ∙ ap so_far (sym front); part = rw front (record { unbroken = unbroken; short = fits }) }

-- what a part grows to is a part
pub IsPart-more : (line new : LineBufferValue) (left leaves : Option (List ℕ)) (after : List ℕ) → IsPart line → Takes line new left leaves after → new.count ≤ 65536 → IsPart new
IsPart-more line new left leaves after is takes short =
    let grown : new ≡ so_far (line.bytes ++ takes.taken) = takes.line ∙ ap (λ (l : LineBufferValue). with_bytes l takes.taken) is.line_is ∙ so_far-append line.bytes takes.taken in
    part_from new (line.bytes ++ takes.taken) grown short (All-append (λ b. b ≢ 10) line.bytes takes.taken is.part.unbroken takes.unbroken)

-- before its first byte a line is a part
pub IsPart-none : (line : LineBufferValue) → line ≡ so_far [] → IsPart line
IsPart-none line is = part_from line [] is (rw is (omega arith)) (All-nil (λ b. b ≢ 10))

-- and holds nothing
pub part-none : (line : LineBufferValue) → line ≡ so_far [] → line.bytes ≡ []
part-none line is = ap (λ (l : LineBufferValue). l.bytes) is ∙ kept_bytes-nil

-- at the end of the input no whole line is left
pub next_end : (line new : LineBufferValue) (left leaves : Option (List ℕ)) → IsPart line → ReadsTo EndOfInput line new left leaves → IfSome left (λ text. IsNext (line.bytes ++ text) None new.bytes leaves)
next_end line new None leaves is reads = tt
next_end line new (Some text) leaves is reads =
    let read = ReadsPart-from_takes line.bytes text is.part.unbroken (held line new (Some text) leaves [] is reads.0) in
    let (front, fits) = whole new (line.bytes ++ read.taken) read.line reads.2 in
    let all : text ≡ read.taken = text_of-read_end line.bytes text leaves read reads.1 in
    let rest : line.bytes ++ text ≡ new.bytes ++ read.rest =
    ap (λ t. line.bytes ++ t) read.text_is ∙ sym (append_assoc line.bytes read.taken read.rest) ∙ ap (λ t. t ++ read.rest) (sym front) in (
      subst (λ (t : List ℕ). NoLine (line.bytes ++ t)) (sym all) (record { unbroken = read.unbroken; short = fits }),
      (read.rest, read.leaves_is, rest),
    )

-- a line that is too long follows
pub next_long : (wanted : ℕ) (line new : LineBufferValue) (left leaves : Option (List ℕ)) → IsPart line → ReadsTo TooLong line new left leaves → IfSome left (λ text. Stands wanted (line.bytes ++ text) LineTooLong)
next_long wanted line new None leaves is reads = tt
next_long wanted line new (Some text) leaves is reads =
    let (after, takes) = reads.0 in
    let read = ReadsPart-from_takes line.bytes text is.part.unbroken (held line new (Some text) leaves after is takes) in
    let count : new.count ≡ length (line.bytes ++ read.taken) = ap (λ (l : LineBufferValue). l.count) read.line in
    record {
      front = line.bytes ++ read.taken;
      rest = after ++ read.rest;
      unbroken = read.unbroken;
      long = omega (arith, count, reads.1);
      text_is = ap (λ t. line.bytes ++ t) read.text_is ∙ sym (append_assoc line.bytes read.taken (after ++ read.rest));
    }

-- the text's first line was taken, and is not too long
pub record TakesLine (text line : List ℕ) (leaves : Option (List ℕ)) : Type 0 where
  pub rest : List ℕ
  pub first : FirstLine text line rest
  pub leaves_is : leaves ≡ Some rest
  pub short : length line ≤ 65536

-- the line that was read to its newline
pub next_line : (more : Bool) (line new : LineBufferValue) (left leaves : Option (List ℕ)) → IsPart line → ReadsTo (Newline more) line new left leaves → IfSome left (λ text. TakesLine (line.bytes ++ text) new.bytes leaves)
next_line more line new None leaves is reads = tt
next_line more line new (Some text) leaves is reads =
    let read = ReadsPart-from_takes line.bytes text is.part.unbroken (held line new (Some text) leaves (10 ∷ []) is reads.0) in
    let (front, fits) = whole new (line.bytes ++ read.taken) read.line reads.1 in
    let whole_text : line.bytes ++ text ≡ (line.bytes ++ read.taken) ++ 10 ∷ read.rest =
    ap (λ t. line.bytes ++ t) read.text_is ∙ sym (append_assoc line.bytes read.taken (10 ∷ read.rest)) in
    rw front (record {
      rest = read.rest;
      first = record { unbroken = read.unbroken; text_is = whole_text };
      leaves_is = read.leaves_is;
      short = fits;
    })

-- a line that is a message
pub next_ok : (part line now : List ℕ) (found : NextMessage) (left leaves : Option (List ℕ)) → IfSome left (λ text. TakesLine (part ++ text) line leaves) → IsMessageLine line (found.at, found.image) → now ≡ []
    → IfSome left (λ text. IsNext (part ++ text) (Some found) now leaves)
next_ok part line now found None leaves takes said none = tt
next_ok part line now found (Some text) leaves takes said none =
    (line, takes.rest, takes.first, said, (takes.rest, takes.leaves_is, ap (λ t. t ++ takes.rest) (sym none)))

-- a message of another position than the one wanted
pub next_apart : (wanted : ℕ) (part now : List ℕ) (found : NextMessage) (left leaves : Option (List ℕ)) → found.at ≢ wanted → IfSome left (λ text. IsNext (part ++ text) (Some found) now leaves)
    → IfSome left (λ text. Stands wanted (part ++ text) (OutOfStep wanted found.at))
next_apart wanted part now found None leaves apart next = tt
next_apart wanted part now found (Some text) leaves apart next =
    let (line, rest, first, said, is_left) = next in
    record { line = line; rest = rest; first = first; short = said.short; refused = (refl, apart, (found.image, said)) }

-- a line that is refused
pub next_err : (wanted : ℕ) (part line : List ℕ) (fault : StreamFault) (left leaves : Option (List ℕ)) → IfSome left (λ text. TakesLine (part ++ text) line leaves) → Refuses wanted line fault → IfSome left (λ text. Stands wanted (part ++ text) fault)
next_err wanted part line fault None leaves takes refused = tt
next_err wanted part line Read (Some text) leaves takes refused = tt
next_err wanted part line Memory (Some text) leaves takes refused = tt
next_err wanted part line LineTooLong (Some text) leaves takes refused = absurd refused
next_err wanted part line Failed (Some text) leaves takes refused = absurd refused
next_err wanted part line (BadMessage at fault) (Some text) leaves takes refused = record { line = line; rest = takes.rest; first = takes.first; short = takes.short; refused = refused }
next_err wanted part line (OutOfStep named got) (Some text) leaves takes refused = record { line = line; rest = takes.rest; first = takes.first; short = takes.short; refused = refused }

-- the position of a message is one of a stream
pub position_within : (line : List ℕ) (wanted : ℕ) (image : Image) → IsMessageLine line (wanted, image) → wanted ≤ 10 ^ 15
position_within line wanted image said = grind (arith, (and_parts (nat_le 1 wanted) (nat_le wanted (10 ^ 15)) said.spelled.position).1)

-- a part that is held is not too long
pub part_within : (line : Option LineBufferValue) → IfSome line IsPart → length (part_of line) ≤ 65536
part_within None is = omega arith
part_within (Some line) is = is.part.short

-- ---- how reading a line ended

-- at a newline
pub newline_read : {E : Type 0} (end : Result BoundedEnd E) (more : Bool) (ends : BoundedEnd → Type 0) → line_ended end ≡ Ok (Some more) → IfOk end ends → ends (Newline more)
newline_read (Ok (Newline seen)) more ends is read = let same : seen ≡ more = cc in subst (λ (b : Bool). ends (Newline b)) same read
newline_read (Ok EndOfInput) more ends is read = cc
newline_read (Ok TooLong) more ends is read = cc
newline_read (Err error) more ends is read = cc

-- an option that is no value is none
pub no_line : {A : Type 0} (seen : Option A) → ((x : A) → seen ≡ Some x → ⊥) → seen ≡ None
no_line None none = refl
no_line (Some x) none = absurd (none x refl)

-- at the end of the input
pub input_ended : {E : Type 0} (end : Result BoundedEnd E) (ends : BoundedEnd → Type 0) → line_ended end ≡ Ok None → IfOk end ends → ends EndOfInput
input_ended (Ok (Newline more)) ends is read = cc
input_ended (Ok EndOfInput) ends is read = read
input_ended (Ok TooLong) ends is read = cc
input_ended (Err error) ends is read = cc

told : (P : List ℕ → Type 0) → ((text : List ℕ) → P text) → (left : Option (List ℕ)) → IfSome left P
told P all None = tt
told P all (Some text) = all text

fault_same : {A : Type 0} (fault other : StreamFault) → ◌≡◌ {A = Result A StreamFault} (Err fault) (Err other) → fault ≡ other
fault_same fault other is = cc

-- with a fault, which follows
pub fault_stands : {E : Type 0} (end : Result BoundedEnd E) (fault : StreamFault) (wanted : ℕ) (line new : LineBufferValue) (left leaves : Option (List ℕ)) → IsPart line → line_ended end ≡ Err fault
    → IfOk end (λ e. ReadsTo e line new left leaves) → IfSome left (λ text. Stands wanted (line.bytes ++ text) fault)
fault_stands (Ok (Newline more)) fault wanted line new left leaves part is reads = cc
fault_stands (Ok EndOfInput) fault wanted line new left leaves part is reads = cc
fault_stands (Ok TooLong) fault wanted line new left leaves part is reads =
    subst (λ (f : StreamFault). IfSome left (λ text. Stands wanted (line.bytes ++ text) f)) (fault_same {A = Option Bool} LineTooLong fault is) (next_long wanted line new left leaves part reads)
fault_stands (Err error) fault wanted line new left leaves part is reads =
    subst (λ (f : StreamFault). IfSome left (λ text. Stands wanted (line.bytes ++ text) f)) (fault_same {A = Option Bool} Read fault is) (told (λ text. Stands wanted (line.bytes ++ text) Read) (λ text. tt) left)

-- ---- the message of a line

-- why a line is no message
pub line_refused : (wanted : ℕ) (line : List ℕ) (read : Result Message ImageFault) → IsUnless image.Memory read (message_at line) → IfErr (message_due wanted read) (λ fault. Refuses wanted line fault)
line_refused wanted line (Ok message) right = tt
line_refused wanted line (Err image.Memory) right = tt
line_refused wanted line (Err image.TooLong) right = (refl, right (λ is. cc))
line_refused wanted line (Err image.NotJson) right = (refl, right (λ is. cc))
line_refused wanted line (Err (image.BadShape member)) right = (refl, right (λ is. cc))
line_refused wanted line (Err (image.OutOfRange member)) right = (refl, right (λ is. cc))

-- the message that was read
pub line_found : (wanted : ℕ) (line : List ℕ) (read : Result Message ImageFault) → IfOk read (λ message. IsMessageLine line message) → IfOk (message_due wanted read) (λ message. IsMessageLine line message)
line_found wanted line (Ok message) found = found
line_found wanted line (Err fault) found = tt

-- a fault of another kind than a message out of step
abbrev pub AnyStep : StreamFault → Type 0
AnyStep fault = (named got : ℕ) → fault ≢ OutOfStep named got

-- no line is refused for its position alone
pub line_any_step : (wanted : ℕ) (read : Result Message ImageFault) → IfErr (message_due wanted read) AnyStep
line_any_step wanted (Ok message) = tt
line_any_step wanted (Err image.Memory) = λ named got is. cc
line_any_step wanted (Err image.TooLong) = λ named got is. cc
line_any_step wanted (Err image.NotJson) = λ named got is. cc
line_any_step wanted (Err (image.BadShape member)) = λ named got is. cc
line_any_step wanted (Err (image.OutOfRange member)) = λ named got is. cc

-- nor is the end of a line out of step
pub end_any_step : {E : Type 0} (end : Result BoundedEnd E) (fault : StreamFault) → line_ended end ≡ Err fault → AnyStep fault
end_any_step (Ok (Newline more)) fault is = cc
end_any_step (Ok EndOfInput) fault is = cc
end_any_step (Ok TooLong) fault is = subst AnyStep (fault_same {A = Option Bool} LineTooLong fault is) (λ named got same. cc)
end_any_step (Err error) fault is = subst AnyStep (fault_same {A = Option Bool} Read fault is) (λ named got same. cc)

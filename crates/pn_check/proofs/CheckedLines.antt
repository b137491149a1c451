-- A line that is checked, and lines that were checked to the end of their input.
use Rattle.std.proofs.Common.{◌≡◌, ◌≢◌, ◌⊎◌, inl, inr, ℕ, Bool, true, false, if◌then◌else◌, Option, None, Some, List, [], ◌∷◌, length, Result, Ok, refl, sym, ap, ◌∙◌, subst, arith, ◌+◌, ◌-◌, ◌^◌, ◌++◌, ap₂, append-nil, eqb-true}
use Rattle.std.specs.Prelude.{MatchBool, ◌==◌, ◌↔◌, IsTrue, IfOk, IfSome, IsErrOf, OnOk, Err, min}
use Rattle.std.proofs.lemmas.List.{length-take, nil_from_length}
use Rattle.std.specs.Io.KnownBytes.{Appends}
use Rattle.serde_json.specs.Data.{Data}
use Rattle.pn_line.specs.Line.{kept_bytes, max_kept, IsUnbroken}
use Rattle.pn_line.specs.Text.{last_line, lines_of, text_of, PartRead}
use Rattle.pn_line.specs.declared.line_buffer.TheConstants.{MAX_KEPT_BYTES}
use Rattle.pn_line.proofs.LineLaws.{kept_bytes-nil}
use Rattle.pn_line.proofs.TextLaws.{lines_of-last, lines_of-nil, lines_of-text}
use Rattle.pn_json.specs.Answers.{◌>>=◌}
use Rattle.pn_record.specs.Grammar.{image_in}
use Rattle.pn_record.specs.Reading.{value_at}
use Rattle.pn_record.specs.declared.fault.ImageFault.{ImageFault}
use Rattle.pn_stream.specs.Messages.{message_at, message_in}
use Rattle.pn_lines.specs.Handling.{one_if, Replied, refusals_of, texts_of, Answers}
use Rattle.pn_lines.specs.declared.handler.EndedBy.{EndedBy}
use Rattle.pn_lines.specs.declared.handler.EndedBy.TheVariants.{Newline, Input}
use Rattle.pn_lines.specs.Driving.{CanEnd, EndsBy, Ended, Flushes, HasEnded, IsEndless, IsFull, Start, Stopped}
use Rattle.pn_lines.specs.Standing.{AllAnswer}
use Rattle.pn_lines.specs.declared.driver.LinesFault.{LinesFault}
use Rattle.pn_lines.specs.declared.engine.Counts.{Counts}
use Rattle.pn_lines.specs.declared.driver.LinesFault.TheVariants as ended
use Rattle.pn_check.specs.Checking.{Checks, Tells, TellsNext, lines_by, replied_of, checks, next, all_told, counted, refused, HasChecked, HasNoEnd, conclusion}
use Rattle.pn_check.specs.Told.{fault_at, fault_in, is_message, read_fault, told}
use Rattle.pn_check.specs.declared.checker.Checker.{Checker}
use Rattle.pn_check.proofs.ToldLines.{told-kept, reply_refuses, reply_text, counted-append, many-append, told-append}
use Rattle.pn_check.specs.declared.input.CheckFault.{CheckFault}
use Rattle.pn_check.specs.declared.input.CheckFault.TheVariants as fault

-- A line that is checked.

-- ---- a message's fault is that of its line

pub message_fault : (line : List ℕ) (d : Data) → value_at line ≡ Ok d → is_message d ≡ true → fault_in (message_at line) ≡ fault_at line
unfolding message_at
message_fault line d is says =
    ap (λ (r : Result Data ImageFault). fault_in (r >>= message_in)) is
    ∙ sym (ap read_fault is ∙ ap (λ (b : Bool). if b then fault_in (message_in d) else fault_in (image_in d)) says)

-- ---- a last part without a byte

-- of no byte none was kept
kept_none : (text : List ℕ) → kept_bytes text ≡ [] → text ≡ []
unfolding max_kept
kept_none text none = nil_from_length text (omega (arith, ap length none, length-take MAX_KEPT_BYTES text))

pub no_line : (was : Checker) (line : List ℕ) (ended : EndedBy) (lacks : Bool) (text : List ℕ) → was.is_spent ≡ false
    → MatchBool lacks ((ended ≡ Input) × (line ≡ [])) (ended ≡ Input → line ≢ []) → lacks ≡ true → line ≡ kept_bytes text → Checks was ended text was (replied_of None)
no_line was line ended true text goes says holds is =
    let empty : text ≡ [] = kept_none text (sym is ∙ says.1) in
    let none : lines_by ended text ≡ [] = ap (λ (e : EndedBy). lines_by e text) says.0 ∙ ap last_line empty in
    let nothing : Tells was was [] (replied_of None) = record { goes = goes; counts = refl; goes_on = goes; text = refl; refuses = refl } in
    inr (subst (λ (lines : List (List ℕ)). Tells was was lines (replied_of None)) (sym none) nothing)
no_line was line ended false text goes says holds is = absurd (cc)

-- ---- a line

one_line : (ended : EndedBy) (line text : List ℕ) → (ended ≡ Input → line ≢ []) → line ≡ kept_bytes text → lines_by ended text ≡ text ∷ []
one_line Newline line text some is = refl
one_line Input line [] some is = absurd (some refl (is ∙ kept_bytes-nil))
one_line Input line (b ∷ text) some is = refl

pub next_line : (was now : Checker) (line : List ℕ) (ended : EndedBy) (lacks : Bool) (said : Option (List ℕ)) (text : List ℕ) → was.is_spent ≡ false
    → MatchBool lacks ((ended ≡ Input) × (line ≡ [])) (ended ≡ Input → line ≢ []) → lacks ≡ false → line ≡ kept_bytes text → TellsNext was line now said
    → Checks was ended text now (replied_of said)
next_line was now line ended true said text goes says holds is tells = absurd (cc)
next_line was now line ended false said text goes says holds is tells = elim tells [
  | inl spent ↦ inl (spent.0, ap (λ (s : Option (List ℕ)). (replied_of s).text) spent.1)
  | inr told_next ↦ inr (subst (λ (lines : List (List ℕ)). Tells was now lines (replied_of said)) (sym (one_line ended line text says is)) (tells_one told_next))
]
  where
    tells_one : (now.is_spent ≡ was.is_spent) × (now.lines ≡ next was.lines) × (said ≡ told (next was.lines) line) → Tells was now (text ∷ []) (replied_of said)
    tells_one told_next =
        let same : said ≡ told (next was.lines) text = told_next.2 ∙ told-kept (next was.lines) line text is in record {
          goes = goes;
          counts = told_next.1;
          goes_on = told_next.0 ∙ goes;
          text = ap (λ (s : Option (List ℕ)). (replied_of s).text) same ∙ reply_text was.lines text;
          refuses = ap (λ (s : Option (List ℕ)). one_if (replied_of s).refused) same ∙ reply_refuses was.lines text;
        }

-- Lines that were checked to the end of their input.

-- ---- lines with their newlines

-- these lines were told of with these replies
record AllTold (was now : Checker) (lines : List (List ℕ)) (replies : List Replied) : Type 0 where
  pub goes : was.is_spent ≡ false
  pub counts : now.lines ≡ counted was.lines lines
  pub texts : texts_of replies ≡ all_told was.lines lines
  pub refusals : refusals_of replies ≡ length (refused was.lines lines)

-- where memory has not run out, a line was told of
told_of : (was : Checker) (ended : EndedBy) (line : List ℕ) (now : Checker) (replied : Replied) → Answers checks was ended line now replied → now.is_spent ≡ false
    → Tells was now (lines_by ended line) replied
told_of was ended line now replied is goes =
    subst (λ (between : Checker). Tells between now (lines_by ended line) replied) is.moved (elim is.answered [
      | inl spent ↦ absurd (let contradiction : true ≡ false = sym spent.0 ∙ goes in cc)
      | inr tells ↦ tells
    ])

all_told_of : (was : Checker) (lines : List (List ℕ)) (replies : List Replied) (now : Checker) → AllAnswer checks was lines replies now → now.is_spent ≡ false
    → AllTold was now lines replies
all_told_of was [] [] now all goes = record { goes = ap (λ (c : Checker). c.is_spent) (sym all) ∙ goes; counts = ap (λ (c : Checker). c.lines) all; texts = refl; refusals = refl }
all_told_of was [] (replied ∷ replies) now all goes = absurd all
all_told_of was (line ∷ lines) [] now all goes = absurd all
all_told_of was (line ∷ lines) (replied ∷ replies) now all goes =
    let rest = all_told_of all.0 lines replies now all.2 goes in
    let first = told_of was Newline line all.0 replied all.1 rest.goes in record {
      goes = first.goes;
      counts = rest.counts ∙ ap (λ (n : ℕ). counted n lines) first.counts;
      texts = ap₂ (λ (a b : List ℕ). a ++ b) first.text (rest.texts ∙ ap (λ (n : ℕ). all_told n lines) first.counts) ∙ sym (told-append was.lines (line ∷ []) lines);
      refusals = ap₂ (λ (a b : ℕ). a + b) first.refuses (rest.refusals ∙ ap (λ (n : ℕ). length (refused n lines)) first.counts) ∙ sym (many-append was.lines (line ∷ []) lines);
    }

-- ---- an input that was read to its end

lines_in : {text : List ℕ} {lines : List (List ℕ)} {part : List ℕ} (left : Option (List ℕ)) → (read : PartRead text left lines part) → left ≡ Some [] → lines_of text ≡ lines ++ last_line part
lines_in {lines = lines} {part = part} left read gone =
    let none : read.rest ≡ [] = let same = sym read.left_is ∙ gone in cc in
    ap lines_of (read.text_is ∙ ap (λ (r : List ℕ). text_of lines ++ (part ++ r)) none ∙ ap (λ (p : List ℕ). text_of lines ++ p) (append-nil part))
    ∙ lines_of-text lines part read.unbroken ∙ ap (λ (l : List (List ℕ)). lines ++ l) (last_of part read.part_unbroken)
  where
    last_of : (part : List ℕ) → IsUnbroken part → lines_of part ≡ last_line part
    last_of [] unbroken = lines_of-nil
    last_of (b ∷ part) unbroken = lines_of-last b part unbroken

-- nothing is refused exactly where no refusal was counted
none_refused : (lines : List (ℕ × List ℕ)) (count : ℕ) → count ≡ min (length lines) (2 ^ 64 - 1) → IsTrue (count == 0) ↔ (lines ≡ [])
none_refused [] count is = (λ holds. refl, λ none. (let zero : count ≡ 0 = omega (arith, is) in ap (λ (n : ℕ). n == 0) zero))
none_refused (line ∷ lines) count is = (λ holds. absurd (omega (arith, is, eqb-true count 0 holds)), λ none. absurd (cc))

has_checked : (start : Start Checker) (text : List ℕ) (left written : Option (List ℕ)) (machine : Checker) (counts : Counts) → start.machine.lines ≡ 0 → machine.is_spent ≡ false
    → Ended checks 18446744073709551615 start text left written machine counts → HasChecked text (counts.refused == 0) start.written written
has_checked start text left written machine counts none goes is =
    let last = told_of is.reached Input is.part machine is.last is.ended goes in
    let all = all_told_of start.machine is.lines is.replies is.reached is.answered.made last.goes in
    let whole : lines_of text ≡ is.lines ++ last_line is.part = lines_in left is.answered.read is.at_end in
    let from = all.counts in
    let told : texts_of is.replies ++ is.last.text ≡ all_told start.machine.lines (is.lines ++ last_line is.part) =
    ap₂ (λ (a b : List ℕ). a ++ b) all.texts (last.text ∙ ap (λ (n : ℕ). all_told n (last_line is.part)) from) ∙ sym (told-append start.machine.lines is.lines (last_line is.part)) in
    let many : refusals_of is.replies + one_if is.last.refused ≡ length (refused start.machine.lines (is.lines ++ last_line is.part)) =
    ap₂ (λ (a b : ℕ). a + b) all.refusals (last.refuses ∙ ap (λ (n : ℕ). length (refused n (last_line is.part))) from) ∙ sym (many-append start.machine.lines is.lines (last_line is.part)) in
    let lines_told : all_told start.machine.lines (is.lines ++ last_line is.part) ≡ all_told 0 (lines_of text) = ap₂ (λ (n : ℕ) (l : List (List ℕ)). all_told n l) none (sym whole) in
    let lines_refused : refused start.machine.lines (is.lines ++ last_line is.part) ≡ refused 0 (lines_of text) = ap₂ (λ (n : ℕ) (l : List (List ℕ)). refused n l) none (sym whole) in
    record {
      told = subst (λ (t : List ℕ). Appends start.written written t) (told ∙ lines_told) is.wrote;
      taken = none_refused (refused 0 (lines_of text)) counts.refused (is.refused_are ∙ ap (λ (n : ℕ). min n (2 ^ 64 - 1)) (many ∙ ap length lines_refused));
    }

if_told : (left : Option (List ℕ)) (P Q : List ℕ → Type 0) → ((text : List ℕ) → P text → Q text) → IfSome left P → IfSome left Q
if_told None P Q f h = tt
if_told (Some text) P Q f h = f text h

pub ends_checked : (start : Start Checker) (left written : Option (List ℕ)) (machine : Checker) (ends : Result Counts LinesFault) → start.machine.lines ≡ 0
    → HasEnded checks 18446744073709551615 start left written machine ends
    → IfOk (conclusion ends machine.is_spent) (λ is_taken. IfSome start.left (λ text. HasChecked text is_taken start.written written))
ends_checked start left written machine ends none is = by_end ends machine.is_spent refl is.ends_by
  where
    by_end : (ends : Result Counts LinesFault) (spent : Bool) → machine.is_spent ≡ spent → EndsBy checks 18446744073709551615 start left written is.reached ends
        → IfOk (conclusion ends spent) (λ is_taken. IfSome start.left (λ text. HasChecked text is_taken start.written written))
    by_end (Ok counts) true same ends_by = tt
    by_end (Ok counts) false same ends_by =
        if_told start.left _ _ (λ text ended. has_checked start text left written is.reached counts none (ap (λ (c : Checker). c.is_spent) (sym is.moved) ∙ same) ended) ends_by
    by_end (Err ended.Read) spent same ends_by = tt
    by_end (Err ended.Write) spent same ends_by = tt
    by_end (Err ended.TooManyLines) spent same ends_by = tt
    by_end (Err ended.EndlessLine) spent same ends_by = tt
    by_end (Err ended.Closed) spent same ends_by = tt

-- ---- a line without end

stopped_long : (start : Start Checker) (text : List ℕ) (left written : Option (List ℕ)) (machine : Checker)
    → Stopped checks (IsEndless 18446744073709551615) start text left written machine → HasNoEnd text
stopped_long start text left written machine is =
    record { lines = is.lines; part = is.part; rest = is.answered.read.rest; text_is = is.answered.read.text_is; no_end = inl is.is_so.1 }

stopped_full : (start : Start Checker) (text : List ℕ) (left written : Option (List ℕ)) (machine : Checker)
    → Stopped checks (IsFull 18446744073709551615 left) start text left written machine → HasNoEnd text
stopped_full start text left written machine is =
    record { lines = is.lines; part = is.part; rest = is.answered.read.rest; text_is = is.answered.read.text_is; no_end = inr is.is_so.0 }

pub ends_endless : (start : Start Checker) (left written : Option (List ℕ)) (machine : Checker) (ends : Result Counts LinesFault) (spent : Bool)
    → HasEnded checks 18446744073709551615 start left written machine ends → IsErrOf (conclusion ends spent) fault.Endless → IfSome start.left HasNoEnd
ends_endless start left written machine ends spent is endless = by_end ends spent is.ends_by endless
  where
    by_end : (ends : Result Counts LinesFault) (spent : Bool) → EndsBy checks 18446744073709551615 start left written is.reached ends
        → IsErrOf (conclusion ends spent) fault.Endless → IfSome start.left HasNoEnd
    by_end (Ok counts) true ends_by endless = absurd (cc)
    by_end (Ok counts) false ends_by endless = absurd (cc)
    by_end (Err ended.Read) spent ends_by endless = absurd (cc)
    by_end (Err ended.Write) spent ends_by endless = absurd (cc)
    by_end (Err ended.TooManyLines) spent ends_by endless = if_told start.left _ _ (λ text stopped. stopped_full start text left written is.reached stopped) ends_by
    by_end (Err ended.EndlessLine) spent ends_by endless = if_told start.left _ _ (λ text stopped. stopped_long start text left written is.reached stopped) ends_by
    by_end (Err ended.Closed) spent ends_by endless = absurd (cc)

-- ---- why a check ends

module _ (read write end closed : Type 0) where
  pub read_fails : (ends : Result Counts LinesFault) (spent : Bool) → CanEnd read write end closed ends → IsErrOf (conclusion ends spent) fault.Read → read
  read_fails (Ok counts) true can is = absurd (cc)
  read_fails (Ok counts) false can is = absurd (cc)
  read_fails (Err ended.Read) spent can is = can
  read_fails (Err ended.Write) spent can is = absurd (cc)
  read_fails (Err ended.TooManyLines) spent can is = absurd (cc)
  read_fails (Err ended.EndlessLine) spent can is = absurd (cc)
  read_fails (Err ended.Closed) spent can is = absurd (cc)

  pub write_fails : (ends : Result Counts LinesFault) (spent : Bool) → CanEnd read write end closed ends → IsErrOf (conclusion ends spent) fault.Write → write
  write_fails (Ok counts) true can is = absurd (cc)
  write_fails (Ok counts) false can is = absurd (cc)
  write_fails (Err ended.Read) spent can is = absurd (cc)
  write_fails (Err ended.Write) spent can is = can
  write_fails (Err ended.TooManyLines) spent can is = absurd (cc)
  write_fails (Err ended.EndlessLine) spent can is = absurd (cc)
  write_fails (Err ended.Closed) spent can is = absurd (cc)

pub told_out : (flushed : Type 0) (ends : Result Counts LinesFault) (spent : Bool) → Flushes ends flushed → OnOk (conclusion ends spent) flushed
told_out flushed (Ok counts) true out = tt
told_out flushed (Ok counts) false out = out
told_out flushed (Err ended.Read) spent out = tt
told_out flushed (Err ended.Write) spent out = tt
told_out flushed (Err ended.TooManyLines) spent out = tt
told_out flushed (Err ended.EndlessLine) spent out = tt
told_out flushed (Err ended.Closed) spent out = tt

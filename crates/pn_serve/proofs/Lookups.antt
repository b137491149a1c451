-- Replies to lookups of a session, and what their texts give of themselves in a piece.
use Rattle.std.proofs.Common.{◌≡◌, ◌≤◌, ℕ, true, false, List, [], ◌∷◌, ◌++◌, length, refl, sym, ap, arith, append-nil, length-append, ◌≢◌, ◌⊎◌, ◌<◌, Bool, inl, inr, ◌∙◌, subst}
use Rattle.std.specs.Prelude.{Vec, vec_capacity, ◌==◌, MatchBool, Option, Result, Ok, Err}
use Rattle.std.specs.declared.alloc.Global.{Global}
use Rattle.std.proofs.lemmas.Bool.{cases_lt}
use Rattle.std.proofs.lemmas.Bool.Decides.{nat_tests}
use Rattle.serde_json.specs.Data.{Data}
use Rattle.pn_line.specs.Line.{kept_bytes}
use Rattle.pn_line.proofs.LineLaws.{kept_bytes-nil, kept_bytes-short, length-kept_bytes_long}
use Rattle.pn_record.specs.Sets.{CellValue}
use Rattle.pn_tablet.specs.Layouts.{Bounds}
use Rattle.pn_scan.specs.Pages.{Look, PageValue, first_page}
use Rattle.pn_scan.specs.Queries.{QueryValue}
use Rattle.pn_scan.specs.Views.{IsGet, Looks, IsScan}
use Rattle.pn_scan.specs.Paging.{Gaps, IsPreorder, LookMade, LooksAfter, Moving, Stays}
use Rattle.pn_scan.specs.declared.view.ScanFault.{ScanFault}
use Rattle.pn_protocol.specs.declared.refusal.Refusal.{Refusal}
use Rattle.pn_protocol.specs.declared.refusal.Refusal.TheVariants.{TooLong, NotJson, BadShape, ReadOnly, OutOfRange, Memory}
use Rattle.pn_protocol.specs.declared.reply.Reply.{Reply}
use Rattle.pn_protocol.specs.declared.reply.Reply.TheVariants.{Silent, Refused}
use Rattle.pn_protocol.proofs.CommandLines.{too_long}
use Rattle.pn_protocol.specs.Command.Lines.{is_too_long, lookup_at}
use Rattle.pn_protocol.specs.Command.Meaning.{CommandValue, adopt, copy, deliver, get, lose, marks, notices, read, relayout, scan, tablets}
use Rattle.pn_protocol.specs.Reply.Texts.{ShowsFound}
use Rattle.pn_lines.specs.Giving.{Gives}
use Rattle.pn_lines.specs.Answers.{AnswersBy}
use Rattle.pn_lines.specs.declared.handler.EndedBy.{EndedBy}
use Rattle.pn_lines.specs.declared.handler.EndedBy.TheVariants.{Newline, Input}
use Rattle.pn_live.specs.Readers.{LiveReaderValue, LooksLive}
use Rattle.pn_serve.specs.declared.machine.line_answers.LineOutcome.{LineOutcome}
use Rattle.pn_serve.specs.declared.machine.line_answers.LineOutcome.TheVariants.{Done, Pending as Begun}
use Rattle.pn_serve.specs.declared.sessions.pending_lookup.PendingLookup.{PendingLookup}
use Rattle.pn_serve.specs.declared.sessions.pending_lookup.PendingLookup.TheVariants.{Page, Keys, Copy}
use Rattle.pn_serve.specs.Session.Resuming.{AnswersWith, reads_by, reads_lines, LooksFor, LooksForLast, LooksOn, LooksTo}
use Rattle.pn_serve.specs.Lines.{Replies, by_end, given_by, replied_of}
use Rattle.pn_serve.proofs.SessionsGivenUp.{given_up}
use Rattle.pn_serve.specs.Session.Lines.{Tells, LooksUp, AnswersLine, EndsLines, RefusesLine}

-- What a reply's text gives of itself in a piece.

-- of two ends of a text the shorter is the end of the longer
split_at : (front now back was : List ℕ) → front ++ now ≡ back ++ was → length now ≤ length was → (given : List ℕ) × (front ≡ back ++ given) × (was ≡ given ++ now)
split_at front now [] was same few = (front, refl, sym same)
split_at [] now (b ∷ back) was same few = absurd (omega (arith, few, ap length same, length-append back was))
split_at (a ∷ front) now (b ∷ back) was same few =
    let first : a ≡ b = cc in
    let later : front ++ now ≡ back ++ was = cc in
    let (given, is, split) = split_at front now back was later few in
    (given, (λ i. first i ∷ is i), split)

pub gives_piece : (was now : List ℕ) (old new : Vec ℕ Global) → new.items ++ now ≡ old.items ++ was → length now ≤ length was → vec_capacity old ≤ vec_capacity new → Gives was now old new
gives_piece was now old new whole few capacity =
    let (given, is, split) = split_at new.items now old.items was whole few in record { given = given; items = is; split = split; capacity = capacity }

pub gives_none : (text : List ℕ) (out : Vec ℕ Global) → Gives text text out out
gives_none text out = record { given = []; items = sym (append-nil out.items); split = refl; capacity = omega arith }

pub true_false : true ≡ false → ⊥
true_false is = cc

-- Replies to lookups of a session.

-- what was found, as it is shown
abbrev pub seen_as : {A B : Type 0} → (A → B) → Result A ScanFault → Result B ScanFault
seen_as see (Ok found) = Ok (see found)
seen_as see (Err fault) = Err fault

pub shows_as : {A B : Type 0} (see : A → B) (show : B → Data) (found : Result A ScanFault) (reply : Reply) → ShowsFound (λ a. show (see a)) found reply → ShowsFound show (seen_as see found) reply
shows_as see show (Ok found) reply is = is
shows_as see show (Err fault) reply is = is

-- looks with nothing between them
looks_stay : (old new : LiveReaderValue) (seen : List Look) → Looks LooksLive old seen new → Looks (LooksAfter Stays LooksLive) old seen new
looks_stay old new [] looked = looked
looks_stay old new (look ∷ seen) looked = (looked.0, record { between = old; moved = refl; looked = looked.1 }, looks_stay looked.0 new seen looked.2)

-- a get, by what its answer shows
pub got_as : {A : Type 0} (bounds : Bounds) (keys : List (List ℕ)) (old new : LiveReaderValue) (show : A → List (Option CellValue)) (found : Result A ScanFault) (seen : List Look)
    → IsGet LooksLive bounds keys old new show found seen → IsGet (LooksAfter Stays LooksLive) bounds keys old new (λ cells. cells) (seen_as show found) seen
got_as bounds keys old new show (Ok cells) seen is = record { looked = looks_stay old new seen is.looked; found = is.found; order = is.order; only = is.only; answers = is.answers; whole = is.whole }
got_as bounds keys old new show (Err fault) seen is = record { looked = looks_stay old new seen is.looked; found = is.found; order = is.order; only = is.only; answers = is.answers; whole = is.whole }

-- a scan, by what its answer shows
pub scanned_as : {A : Type 0} (bounds : Bounds) (query : QueryValue) (old new : LiveReaderValue) (show : A → PageValue) (found : Result A ScanFault) (seen : List Look)
    → IsScan LooksLive bounds query old new show found (first_page query) seen → IsScan (LooksAfter Stays LooksLive) bounds query old new (λ page. page) (seen_as show found) (first_page query) seen
scanned_as bounds query old new show (Ok page) seen is = record { looked = looks_stay old new seen is.looked; visit = is.visit; answers = is.answers; whole = is.whole; begun = is.begun }
scanned_as bounds query old new show (Err fault) seen is = record { looked = looks_stay old new seen is.looked; visit = is.visit; answers = is.answers; whole = is.whole; begun = is.begun }

-- ---- what may become of a reader that is alone may become of any

module _ (moves : Moving LiveReaderValue) (pre : IsPreorder moves) where
  moves_too : (old new : LiveReaderValue) → Stays old new → moves old new
  moves_too old new same = subst (moves old) (sym same) (pre.stays old)

  looks_too : (old new : LiveReaderValue) (seen : List Look) → Looks (LooksAfter Stays LooksLive) old seen new → Looks (LooksAfter moves LooksLive) old seen new
  looks_too old new [] looked = looked
  looks_too old new (look ∷ seen) looked =
      let first = looked.1 in
      (looked.0, record { between = first.between; moved = moves_too old first.between first.moved; looked = first.looked }, looks_too looked.0 new seen looked.2)

  gaps_too : (old new : LiveReaderValue) (trace : List (LookMade LiveReaderValue)) → Gaps Stays old trace new → Gaps moves old trace new
  gaps_too old new [] gaps = moves_too old new gaps
  gaps_too old new (one ∷ trace) gaps = (moves_too old one.old gaps.0, gaps_too one.new new trace gaps.1)

  up_too : (old new : LiveReaderValue) (command : CommandValue) (reply : Reply) → LooksUp Stays old command new reply → LooksUp moves old command new reply
  up_too old new (copy need tablet) reply (inl is) =
      inl record { within = is.within; found = is.found; answer = is.answer; reached = is.reached; copied = is.copied; moved = moves_too is.reached new is.moved; shows = is.shows }
  up_too old new (copy need tablet) reply (inr none) = inr none
  up_too old new (get keys) reply is =
      let got = is.got in record {
        seen = is.seen;
        answer = is.answer;
        reached = is.reached;
        got = record { looked = looks_too old is.reached is.seen got.looked; found = got.found; order = got.order; only = got.only; answers = got.answers; whole = got.whole };
        moved = moves_too is.reached new is.moved;
        shows = is.shows;
      }
  up_too old new (read key wanted) reply is = is
  up_too old new (scan query) reply is =
      let scanned = is.scanned in record {
        seen = is.seen;
        answer = is.answer;
        reached = is.reached;
        scanned = record { looked = looks_too old is.reached is.seen scanned.looked; visit = scanned.visit; answers = scanned.answers; whole = scanned.whole; begun = scanned.begun };
        moved = moves_too is.reached new is.moved;
        shows = is.shows;
      }
  up_too old new (adopt lines) reply is = is
  up_too old new (deliver deliveries) reply is = is
  up_too old new (lose tablet) reply is = is
  up_too old new marks reply is = is
  up_too old new (notices since) reply is = is
  up_too old new (relayout bounds) reply is = is
  up_too old new tablets reply is = is

  said_too : (old new : LiveReaderValue) (said : Result CommandValue Refusal) (reply : Reply) → Tells Stays old said new reply → Tells moves old said new reply
  said_too old new (Ok command) reply tells = up_too old new command reply tells
  said_too old new (Err refusal) reply tells = tells

  on_too : (old new : LiveReaderValue) (command : CommandValue) (pending : PendingLookup) → LooksOn Stays old command new pending → LooksOn moves old command new pending
  on_too old new (scan query) (Page asked walk) on = (on.0, (on.1.0, on.1.1, gaps_too old new on.1.0 on.1.2))
  on_too old new (scan query) (Keys walk) on = absurd on
  on_too old new (scan query) (Copy count) on = absurd on
  on_too old new (get keys) (Page asked walk) on = absurd on
  on_too old new (get keys) (Keys walk) on = (on.0, (on.1.0, on.1.1, gaps_too old new on.1.0 on.1.2))
  on_too old new (get keys) (Copy count) on = absurd on
  on_too old new (copy need tablet) (Page asked walk) on = absurd on
  on_too old new (copy need tablet) (Keys walk) on = absurd on
  on_too old new (copy need tablet) (Copy count) on = record { within = on.within; found = on.found; reached = on.reached; copied = on.copied; moved = moves_too on.reached new on.moved }
  on_too old new (read key wanted) pending on = absurd on
  on_too old new (adopt lines) pending on = absurd on
  on_too old new (deliver deliveries) pending on = absurd on
  on_too old new (lose tablet) pending on = absurd on
  on_too old new marks pending on = absurd on
  on_too old new (notices since) pending on = absurd on
  on_too old new (relayout bounds) pending on = absurd on
  on_too old new tablets pending on = absurd on

  -- a line that was answered, or begun, by a reader that is alone
  pub answers_too : (old new : LiveReaderValue) (line : List ℕ) (answer : LineOutcome) → AnswersWith (AnswersLine Stays) (LooksFor Stays) old line new answer → AnswersWith (AnswersLine moves) (LooksFor moves) old line new answer
  answers_too old new line (Done reply) (inl tells) = inl (said_too old new (lookup_at line) reply tells)
  answers_too old new line (Done reply) (inr short) = inr short
  answers_too old new line (Begun pending) begun = record { command = begun.command; reads = begun.reads; so_far = on_too old new begun.command pending begun.so_far }

-- ---- lines

module _ (moves : Moving LiveReaderValue) where
  -- the line says this command
  pub answers_said : (old new : LiveReaderValue) (line : List ℕ) (command : CommandValue) (answer : LineOutcome) → lookup_at line ≡ Ok command → LooksTo moves old command new answer → AnswersWith (AnswersLine moves) (LooksFor moves) old line new answer
  answers_said old new line command (Done reply) said answered = inl (subst (λ (r : Result CommandValue Refusal). Tells moves old r new reply) (sym said) answered)
  answers_said old new line command (Begun pending) said begun = record { command = command; reads = said; so_far = begun }

  answers_fault : (old : LiveReaderValue) (line : List ℕ) (refusal : Refusal) → lookup_at line ≡ Err refusal → AnswersLine moves old line old (Refused refusal)
  answers_fault old line refusal said = inl (subst (λ (r : Result CommandValue Refusal). Tells moves old r old (Refused refusal)) (sym said) (refl, refl))

  -- the line was refused, or memory ran out before it was read
  pub answers_err : (old : LiveReaderValue) (line : List ℕ) (refusal : Refusal) → (refusal ≢ Memory → lookup_at line ≡ Err refusal) → (refusal ≡ Memory → is_too_long line ≡ false) → AnswersLine moves old line old (Refused refusal)
  answers_err old line Memory is short = inr (short refl, (refl, refl))
  answers_err old line TooLong is short = answers_fault old line TooLong (is (λ same. cc))
  answers_err old line NotJson is short = answers_fault old line NotJson (is (λ same. cc))
  answers_err old line (BadShape part) is short = answers_fault old line (BadShape part) (is (λ same. cc))
  answers_err old line ReadOnly is short = answers_fault old line ReadOnly (is (λ same. cc))
  answers_err old line (OutOfRange part) is short = answers_fault old line (OutOfRange part) (is (λ same. cc))

-- what a test decides
pub when_true : (test : Bool) → test ≡ true → (P Q : Type 0) → MatchBool test P Q → P
when_true true is P Q holds = holds
when_true false is P Q holds = absurd (cc)

pub when_false : (test : Bool) → test ≡ false → (P Q : Type 0) → MatchBool test P Q → Q
when_false true is P Q holds = absurd (cc)
when_false false is P Q holds = holds

-- a list whose length was tested
pub no_length : (text : List ℕ) → true ≡ (length text == 0) → text ≡ []
no_length [] is = refl
no_length (b ∷ text) is =
    let other : (length (b ∷ text) == 0) ≡ false = grind (arith, nat_tests) in
    let clash : true ≡ false = is ∙ other in absurd (cc)

pub some_length : (text : List ℕ) → false ≡ (length text == 0) → text ≡ [] → ⊥
some_length [] is none = cc
some_length (b ∷ text) is none = cc

-- a line without bytes, by those that are kept
pub no_bytes : (text : List ℕ) → kept_bytes text ≡ [] → text ≡ []
no_bytes text none = elim (cases_lt 65536 (length text)) [
  | inl long ↦ absurd (omega (arith, length-kept_bytes_long text long, ap length none))
  | inr short ↦ sym (kept_bytes-short text short) ∙ none
]

-- a line says what its kept bytes say
said_kept : (line : List ℕ) → (lookup_at (kept_bytes line) ≡ lookup_at line) × (is_too_long (kept_bytes line) ≡ is_too_long line)
said_kept line = elim (cases_lt 65536 (length line)) [
  | inl long ↦
      (
      let long_too : 65536 < length (kept_bytes line) = omega (arith, length-kept_bytes_long line long) in
      let here : is_too_long (kept_bytes line) ≡ true = grind (arith, nat_tests) in
      let there : is_too_long line ≡ true = grind (arith, nat_tests) in
      (too_long _ (kept_bytes line) long_too ∙ sym (too_long _ line long), here ∙ sym there)
      )
  | inr short ↦ (ap lookup_at (kept_bytes-short line short), ap is_too_long (kept_bytes-short line short))
]

answers_kept : (moves : Moving LiveReaderValue) (old new : LiveReaderValue) (line : List ℕ) (answer : LineOutcome) → AnswersWith (AnswersLine moves) (LooksFor moves) old (kept_bytes line) new answer → AnswersWith (AnswersLine moves) (LooksFor moves) old line new answer
answers_kept moves old new line (Done reply) answered =
    let same = said_kept line in
    subst (λ (r : Result CommandValue Refusal). Tells moves old r new reply ⊎ ((is_too_long line ≡ false) × RefusesLine old Memory new reply)) same.0
    (subst (λ (b : Bool). Tells moves old (lookup_at (kept_bytes line)) new reply ⊎ ((b ≡ false) × RefusesLine old Memory new reply)) same.1 answered)
answers_kept moves old new line (Begun pending) begun = record { command = begun.command; reads = sym (said_kept line).0 ∙ begun.reads; so_far = begun.so_far }

module _ (moves : Moving LiveReaderValue) (pre : IsPreorder moves) where
  -- a line that has its reply, or was begun
  given : (old new : LiveReaderValue) (ended : EndedBy) (text : List ℕ) (answer : LineOutcome) → (ended ≡ Input → text ≢ []) → AnswersWith (AnswersLine moves) (LooksFor moves) old text new answer
      → AnswersBy (reads_lines moves) old ended text new (given_by answer)
  given old new Newline text (Done reply) some answered = record { reply = reply; shown = refl; made = answered }
  given old new Newline text (Begun pending) some begun = record { looks = begun; gives_up = λ later moved. given_up moves pre old new later moved Newline text pending begun }
  given old new Input [] answer some answered = absurd (some refl refl)
  given old new Input (b ∷ part) (Done reply) some answered = record { reply = reply; shown = refl; made = answered }
  given old new Input (b ∷ part) (Begun pending) some begun = record { looks = begun; gives_up = λ later moved. given_up moves pre old new later moved Input (b ∷ part) pending begun }

  -- a line is answered by its first bytes
  pub answers_by : (old new : LiveReaderValue) (ended : EndedBy) (bytes text : List ℕ) (answer : LineOutcome) → bytes ≡ kept_bytes text → (ended ≡ Input → bytes ≢ [])
      → AnswersWith (AnswersLine moves) (LooksFor moves) old bytes new answer → AnswersBy (reads_lines moves) old ended text new (given_by answer)
  answers_by old new ended bytes text answer is some answered =
      given old new ended text answer (λ last none. some last (is ∙ ap kept_bytes none ∙ kept_bytes-nil))
      (answers_kept moves old new text answer (subst (λ (bs : List ℕ). AnswersWith (AnswersLine moves) (LooksFor moves) old bs new answer) is answered))

  -- a line that is looked up so far comes to its reply, or goes on
  pub goes_by : (was between now : LiveReaderValue) (ended : EndedBy) (text : List ℕ) (pending : PendingLookup) (answer : LineOutcome) → by_end (LooksFor moves) (LooksForLast moves) was ended text between pending
      → ((command : CommandValue) → LooksOn moves was command between pending → LooksTo moves was command now answer) → AnswersBy (reads_lines moves) was ended text now (given_by answer)
  goes_by was between now Newline text pending answer looks on =
      given was now Newline text answer (λ is. absurd (cc)) (answers_said moves was now text looks.command answer looks.reads (on looks.command looks.so_far))
  goes_by was between now Input [] pending answer looks on = absurd looks
  goes_by was between now Input (b ∷ part) pending answer looks on =
      given was now Input (b ∷ part) answer (λ is none. absurd (omega (arith, ap length none))) (answers_said moves was now (b ∷ part) looks.command answer looks.reads (on looks.command looks.so_far))

-- the input is at its end after a newline
pub answers_none : (moves : Moving LiveReaderValue) (old : LiveReaderValue) (ended : EndedBy) (bytes text : List ℕ) → bytes ≡ kept_bytes text → (ended ≡ Input) × (bytes ≡ []) → AnswersBy (reads_lines moves) old ended text old (given_by (Done Silent))
answers_none moves old ended bytes text is (last, none) = subst (λ (e : EndedBy). AnswersBy (reads_lines moves) old e text old (given_by (Done Silent))) (sym last) (silent text (no_bytes text (sym is ∙ none)))
  where
    silent : (t : List ℕ) → t ≡ [] → AnswersBy (reads_lines moves) old Input t old (given_by (Done Silent))
    silent [] empty = record { reply = Silent; shown = refl; made = (refl, refl) }
    silent (b ∷ t) empty = absurd (omega (arith, ap length empty))

-- a line that is too long is refused, whatever its bytes are
pub refuses_by : (moves : Moving LiveReaderValue) (old : LiveReaderValue) (ended : EndedBy) (text : List ℕ) → 65536 < length text → Replies (AnswersLine moves) (EndsLines moves) old ended text old (replied_of (Refused TooLong))
refuses_by moves old Newline text long = record { reply = Refused TooLong; shown = refl; made = answers_fault moves old text TooLong (too_long _ text long) }
refuses_by moves old Input [] long = absurd (omega (arith, long))
refuses_by moves old Input (b ∷ part) long = record { reply = Refused TooLong; shown = refl; made = answers_fault moves old (b ∷ part) TooLong (too_long _ (b ∷ part) long) }

-- ---- the same by a reader that a handler has alone

pub seen_alone : {V : Type 0} (see : V → LiveReaderValue) (was now : V) (ended : EndedBy) (text : List ℕ) (answer : LineOutcome) → AnswersBy (reads_lines Stays) (see was) ended text (see now) (given_by answer)
    → AnswersBy (reads_by see) was ended text now (given_by answer)
seen_alone see was now ended text (Done reply) is = is
seen_alone see was now ended text (Begun pending) is = is

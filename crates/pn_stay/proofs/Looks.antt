-- A look that is put off, or not, comes to the reply of its line.
use Rattle.std.proofs.Common.{◌≡◌, ◌≤◌, ◌+◌, ◌⊎◌, ℕ, List, Option, None, Some, IfSome, inl, inr, ap, sym, subst, ◌∙◌, arith}
use Rattle.pn_line.specs.Prelude.{kept_bytes}
use Rattle.pn_lines.specs.Answers.{AnswersBy, answer_left as engine_left, answer_of}
use Rattle.pn_lines.specs.declared.handler.LineOutcome.{LineOutcome}
use Rattle.pn_lines.specs.declared.handler.LineOutcome.TheVariants.{Done, Pending as GoesOn}
use Rattle.pn_lines.specs.declared.handler.EndedBy.{EndedBy}
use Rattle.pn_lines.specs.declared.handler.LineReply.{LineReply}
use Rattle.pn_live.specs.Readers.{LiveReaderValue}
use Rattle.pn_serve.specs.Lines.{pieces_left}
use Rattle.pn_serve.specs.Proofs.{knows_itself, knows_on}
use Rattle.pn_serve.specs.Session.Resuming.{KnowsNoLess, pending_left, most_left}
use Rattle.pn_serve.specs.declared.machine.line_answers.ReplyPieces.{ReplyPieces}
use Rattle.pn_serve.specs.declared.sessions.pending_lookup.PendingLookup.{PendingLookup}
use Rattle.pn_stay.specs.Looks.{AsksAgain, KeepsLine, LooksFor, LooksOn, LooksOrWaits, Settles, bounded_reads, look_left, session_reads, under}
use Rattle.pn_stay.specs.declared.bounded_reader.AskedLine.{AskedLine}
use Rattle.pn_stay.specs.declared.bounded_reader.BoundedLookup.{BoundedLookup}
use Rattle.pn_stay.specs.declared.bounded_reader.BoundedLookup.TheVariants.{PutOff, Under}
use Rattle.pn_stay.specs.declared.bounded_reader.TheConstants.{MAX_WAITS}

-- what becomes of a session's answer: it is passed on, or its line is put off
abbrev pub Comes : Option AskedLine → LineOutcome PendingLookup ReplyPieces → LineOutcome BoundedLookup ReplyPieces → Type 0
Comes kept answer outer =
    (outer ≡ under kept answer) ⊎ ((line : AskedLine) × (weight : ℕ) × (kept ≡ Some line) × (outer ≡ GoesOn (PutOff line weight MAX_WAITS)))

-- a reply that is settled
pub comes_settled : (kept : Option AskedLine) (answer : LineOutcome PendingLookup ReplyPieces) (reply : LineReply ReplyPieces) (outer : LineOutcome BoundedLookup ReplyPieces)
    → answer ≡ Done reply → Settles reply kept outer → Comes kept answer outer
comes_settled kept answer reply outer is (inl done) = inl (done ∙ ap (under kept) (sym is))
comes_settled kept answer reply outer is (inr off) = inr off

-- a session's answer, since the reader was so or later
pub answers_under : (was begun new : LiveReaderValue) (ended : EndedBy) (line : List ℕ) (kept : Option AskedLine) (answer : LineOutcome PendingLookup ReplyPieces)
    → KnowsNoLess was begun → KnowsNoLess was new → IfSome kept (KeepsLine ended line)
    → AnswersBy session_reads begun ended line new (answer_of pieces_left answer)
    → AnswersBy bounded_reads was ended line new (answer_of pieces_left (under kept answer))
answers_under was begun new ended line kept (Done reply) moved later keeps answers = record { between = begun; moved = moved; answered = answers }
answers_under was begun new ended line kept (GoesOn look) moved later keeps goes = (later, record { begun = begun; moved = moved; goes = goes }, keeps)

-- the line is kept that was asked
kept_line : (ended : EndedBy) (bytes text : List ℕ) (kept : Option AskedLine) → bytes ≡ kept_bytes text
    → IfSome kept (λ line. (line.bytes.items ≡ bytes) × (line.ended ≡ ended)) → IfSome kept (KeepsLine ended text)
kept_line ended bytes text None is same = tt
kept_line ended bytes text (Some line) is same = record { bytes_are = same.0 ∙ is; ended_is = same.1 }

-- a line begins
pub begins_under : (old new : LiveReaderValue) (ended : EndedBy) (bytes text : List ℕ) (answer : LineOutcome PendingLookup ReplyPieces) (outer : LineOutcome BoundedLookup ReplyPieces)
    → bytes ≡ kept_bytes text → KnowsNoLess old new
    → AnswersBy session_reads old ended text new (answer_of pieces_left answer) → LooksFor bytes ended answer outer
    → AnswersBy bounded_reads old ended text new (answer_of pieces_left outer)
begins_under old new ended bytes text answer outer is moved answers looks =
    subst (λ (a : LineOutcome BoundedLookup ReplyPieces). AnswersBy bounded_reads old ended text new (answer_of pieces_left a)) (sym looks.2)
    (answers_under old old new ended text looks.0 answer (knows_itself old) moved (kept_line ended bytes text looks.0 is looks.1) answers)

-- a look goes on
module _ (old new : LiveReaderValue) (look : PendingLookup) (kept : Option AskedLine) (answer : LineOutcome PendingLookup ReplyPieces) (outer : LineOutcome BoundedLookup ReplyPieces)
    (goes : (was between : LiveReaderValue) (ended : EndedBy) (line : List ℕ) → session_reads.goes was ended line between look → KnowsNoLess between old
    → AnswersBy session_reads was ended line new (answer_of pieces_left answer))
    (moved : KnowsNoLess old new) where
  looks_by : (was between : LiveReaderValue) (ended : EndedBy) (line : List ℕ) → LooksOrWaits was ended line between (Under look kept)
      → KnowsNoLess between old → Comes kept answer outer → AnswersBy bounded_reads was ended line new (answer_of pieces_left outer)
  looks_by was between ended line so_far after (inl is) =
      subst (λ (a : LineOutcome BoundedLookup ReplyPieces). AnswersBy bounded_reads was ended line new (answer_of pieces_left a)) (sym is)
      (answers_under was so_far.1.begun new ended line kept answer so_far.1.moved (knows_on was between new so_far.0 (knows_on between old new after moved))
      so_far.2 (goes so_far.1.begun between ended line so_far.1.goes after))
  looks_by was between ended line so_far after (inr off) =
      let (own, weight, some, is) = off in
      let now = knows_on between old new after moved in
      let keeps : KeepsLine ended line own = subst (λ (k : Option AskedLine). IfSome k (KeepsLine ended line)) some so_far.2 in
      subst (λ (a : LineOutcome BoundedLookup ReplyPieces). AnswersBy bounded_reads was ended line new (answer_of pieces_left a)) (sym is)
      (knows_on was between new so_far.0 now, keeps, (between, look, so_far.1, now))

  pub looks_under : Comes kept answer outer → LooksOn old new look kept (answer_of pieces_left outer)
  looks_under comes = λ was between ended line so_far after. looks_by was between ended line so_far after comes

-- a line that was put off is asked again
pub asks_under : (old new : LiveReaderValue) (kept : AskedLine) (waits : ℕ) (answer : LineOutcome PendingLookup ReplyPieces) (outer : LineOutcome BoundedLookup ReplyPieces)
    → ((text : List ℕ) → kept.bytes.items ≡ kept_bytes text → AnswersBy session_reads old kept.ended text new (answer_of pieces_left answer))
    → KnowsNoLess old new → outer ≡ under None answer → AsksAgain old new kept waits (answer_of pieces_left outer)
asks_under old new kept waits answer outer asks moved is = λ was between ended text weight so_far after.
    let later = knows_on was between old so_far.0 after in
    subst (λ (a : LineOutcome BoundedLookup ReplyPieces). AnswersBy bounded_reads was ended text new (answer_of pieces_left a)) (sym is)
    (answers_under was old new ended text None answer later (knows_on was old new later moved) tt
    (subst (λ (e : EndedBy). AnswersBy session_reads old e text new (answer_of pieces_left answer)) so_far.1.ended_is (asks text so_far.1.bytes_are)))

-- or it waits on
pub waits_on : (old : LiveReaderValue) (kept : AskedLine) (waits weight left : ℕ)
    → AsksAgain old old kept waits (answer_of pieces_left (GoesOn (PutOff kept weight left)))
waits_on old kept waits weight left = λ was between ended text own so_far after.
    let (reached, look, looked, moved) = so_far.2 in
    (knows_on was between old so_far.0 after, so_far.1, (reached, look, looked, knows_on reached between old moved after))

-- ---- less is left

left_by : (look : PendingLookup) (kept : Option AskedLine) (answer : LineOutcome PendingLookup ReplyPieces)
    → engine_left pending_left (answer_of pieces_left answer) ≤ pending_left look
    → engine_left look_left (answer_of pieces_left (under kept answer)) ≤ look_left (Under look kept)
left_by look None (Done reply) less = omega arith
left_by look None (GoesOn next) less = less
left_by look (Some line) (Done reply) less = omega arith
left_by look (Some line) (GoesOn next) less = omega (arith, less)

pub left_under : (look : PendingLookup) (kept : Option AskedLine) (answer : LineOutcome PendingLookup ReplyPieces) (outer : LineOutcome BoundedLookup ReplyPieces)
    → engine_left pending_left (answer_of pieces_left answer) ≤ pending_left look → Comes kept answer outer
    → engine_left look_left (answer_of pieces_left outer) ≤ look_left (Under look kept)
left_under look kept answer outer less (inl is) =
    subst (λ (a : LineOutcome BoundedLookup ReplyPieces). engine_left look_left (answer_of pieces_left a) ≤ look_left (Under look kept)) (sym is)
    (left_by look kept answer less)
left_under look kept answer outer less (inr off) =
    let (line, weight, some, is) = off in
    subst (λ (a : LineOutcome BoundedLookup ReplyPieces). engine_left look_left (answer_of pieces_left a) ≤ look_left (Under look kept)) (sym is)
    (subst (λ (k : Option AskedLine). most_left + MAX_WAITS + 1 ≤ look_left (Under look k)) (sym some) (omega arith))

begun_by : (answer : LineOutcome PendingLookup ReplyPieces) (waits : ℕ) → engine_left pending_left (answer_of pieces_left answer) ≤ most_left
    → engine_left look_left (answer_of pieces_left (under None answer)) ≤ most_left + waits
begun_by (Done reply) waits less = omega arith
begun_by (GoesOn next) waits less = omega (arith, less)

pub left_begun : (answer : LineOutcome PendingLookup ReplyPieces) (outer : LineOutcome BoundedLookup ReplyPieces) (waits : ℕ)
    → engine_left pending_left (answer_of pieces_left answer) ≤ most_left → outer ≡ under None answer
    → engine_left look_left (answer_of pieces_left outer) ≤ most_left + waits
left_begun answer outer waits less is =
    subst (λ (a : LineOutcome BoundedLookup ReplyPieces). engine_left look_left (answer_of pieces_left a) ≤ most_left + waits) (sym is) (begun_by answer waits less)

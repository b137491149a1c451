-- Lines that are answered one after another, by replies, where they end or stop, and what their run comes to.
use Rattle.std.specs.Prelude.{◌≡◌, ℕ, List, ◌<◌, [], ◌∷◌, length, ◌+◌, ◌++◌, ◌≢◌, ◌⊎◌, Option, Some, IfSome, Result, Ok, Err, ◌*◌}
use Rattle.std.specs.Io.KnownBytes.{Appends, Keeps}
use Rattle.pn_line.specs.declared.line_buffer.TheConstants.{ENDLESS}
use Rattle.pn_line.specs.Text.{PartRead, lines_of}
use Rattle.pn_line.specs.Sent.{AppendsPrefix}
use Rattle.pn_protocol.specs.Reply.Texts.{reply_text, is_refusal}
use Rattle.pn_protocol.specs.declared.reply.Reply.{Reply}
use Rattle.pn_lines.specs.Answers.{AnswerValue, done, pending}
use Rattle.pn_lines.specs.Handling.{Replied, Handling}
use Rattle.pn_lines.specs.declared.handler.EndedBy.{EndedBy}
use Rattle.pn_lines.specs.declared.handler.EndedBy.TheVariants.{Newline, Input}
use Rattle.pn_lines.specs.Driving.{Start, HasEnded}
use Rattle.pn_lines.specs.declared.driver.LinesFault.{LinesFault}
use Rattle.pn_lines.specs.declared.driver.LinesFault.TheVariants as lines
use Rattle.pn_lines.specs.declared.engine.Counts as engine
use Rattle.pn_serve.specs.declared.machine.line_answers.LineOutcome.{LineOutcome}
use Rattle.pn_serve.specs.declared.machine.line_answers.LineOutcome.TheVariants.{Done, Pending as Begun}
use Rattle.pn_serve.specs.declared.machine.line_answers.ReplyPieces.{ReplyPieces}
use Rattle.pn_serve.specs.declared.sessions.pending_lookup.PendingLookup.{PendingLookup}
use Rattle.pn_serve.specs.Script.Written.{one_if, parts_of}
use Rattle.pn_serve.specs.Runs.{lines_within, IsAtBound}
use Rattle.pn_serve.specs.declared.script.Counts.{Counts}
use Rattle.pn_serve.specs.declared.script.RunFault.{RunFault}
use Rattle.pn_serve.specs.declared.script.RunFault.TheVariants.{Read, Write, TooManyTurns, Memory}
use Rattle.pn_serve.specs.declared.script.TheConstants.{MAX_LINES}

-- Lines and ends of inputs that are answered by replies, as the engine for lines takes them.

-- a reply as its text and whether it refuses its line
abbrev pub replied_of : Reply → Replied
replied_of reply = record { text = reply_text reply; refused = is_refusal reply }

-- the bytes of a text that are still to be made
abbrev pub pieces_left : ReplyPieces → List ℕ
pieces_left pieces = pieces.0

-- the reply, or what is gone on with
abbrev pub given_by : LineOutcome → AnswerValue PendingLookup
given_by (Done reply) = done (replied_of reply)
given_by (Begun g) = pending g

-- a relation to lines, or the one to the end of an input, by what ended the line
abbrev pub by_end : {V A : Type 0} → (V → List ℕ → V → A → Type 0) → (V → List ℕ → V → A → Type 0) → V → EndedBy → List ℕ → V → A → Type 0
by_end does ends was Newline text now answer = does was text now answer
by_end does ends was Input text now answer = ends was text now answer

-- the line, or the end of the input, has a reply with this text
pub record Replies {V : Type 0} (makes ends : V → List ℕ → V → Reply → Type 0) (was : V) (ended : EndedBy) (text : List ℕ) (now : V) (replied : Replied) : Type 0 where
  pub reply : Reply
  pub shown : replied ≡ replied_of reply
  pub made : by_end makes ends was ended text now reply

-- Lines that were answered one after another.

-- a line with fewer than a billion bytes
abbrev pub IsShort : List ℕ → Type 0
IsShort line = length line < ENDLESS

-- by the relation of a handler to lines, or to the end of the input
module _ {V : Type 0} (makes : V → List ℕ → V → Reply → Type 0) where
  -- lines were answered one after another, with these replies
  abbrev pub AllAnswer : V → List (List ℕ) → List Reply → V → Type 0
  AllAnswer was [] [] now = now ≡ was
  AllAnswer was (line ∷ lines) (reply ∷ replies) now = (between : V) × makes was line between reply × AllAnswer between lines replies now
  AllAnswer was _ _ now = ⊥

-- The replies to lines: their bytes, and how many are refusals.

-- the bytes of replies, and how many of them are refusals
abbrev pub texts_of : List Reply → List ℕ
texts_of [] = []
texts_of (reply ∷ replies) = reply_text reply ++ texts_of replies

abbrev pub refusals_of : List Reply → ℕ
refusals_of [] = 0
refusals_of (reply ∷ replies) = one_if (is_refusal reply) + refusals_of replies

-- Where lines stop before the end of their script: a fault, or too many lines.

-- by the relations of a handler to lines and to the end of the input
module _ {V : Type 0} (makes ends : V → List ℕ → V → Reply → Type 0) where
  -- these lines and a part of the next were read; the replies to the lines were written
  pub record Broken (start : Start V) (script : List ℕ) (left written : Option (List ℕ)) (machine : V) : Type 0 where
    pub lines : List (List ℕ)
    pub part : List ℕ
    pub read : PartRead script left lines part
    pub replies : List Reply
    pub made : AllAnswer makes start.machine lines replies machine
    pub wrote : Appends start.written written (texts_of replies)

  -- some lines and a part of the next were read; a prefix of their replies was written, with the part's own at the
  -- end of the input
  pub record Cut (start : Start V) (script : List ℕ) (left written : Option (List ℕ)) (machine : V) : Type 0 where
    pub lines : List (List ℕ)
    pub part : List ℕ
    pub read : PartRead script left lines part
    pub replies : List Reply
    pub reached : V
    pub made : AllAnswer makes start.machine lines replies reached
    pub last : List ℕ
    pub ended : ((machine ≡ reached) × (last ≡ [])) ⊎ ((left ≡ Some []) × ((reply : Reply) × (last ≡ reply_text reply) × ends reached part machine reply))
    pub prefix : AppendsPrefix start.written written (texts_of replies ++ last)

  -- the lines that may be answered and a part of the next were read, and there are more; the replies to the lines
  -- were written
  pub record Exceeded (start : Start V) (script : List ℕ) (left written : Option (List ℕ)) (machine : V) : Type 0 where
    pub part : List ℕ
    pub read : PartRead script left (lines_within script) part
    pub stopped : IsAtBound (lines_within script) part
    pub replies : List Reply
    pub made : AllAnswer makes start.machine (lines_within script) replies machine
    pub wrote : Appends start.written written (texts_of replies)
    pub more : lines_within script ≢ lines_of script

-- Where lines end: what it read and wrote, and what is left of its script.

-- by the relations of a handler to lines and to the end of the input
module _ {V : Type 0} (makes ends : V → List ℕ → V → Reply → Type 0) where
  -- the whole script was read; the replies to its lines and to the part after its last newline were written; lines
  -- and refusals were counted
  pub record Ended (start : Start V) (script : List ℕ) (left written : Option (List ℕ)) (machine : V) (counts : Counts) : Type 0 where
    pub replies : List Reply
    pub reached : V
    pub made : AllAnswer makes start.machine (parts_of script).0 replies reached
    pub last : Reply
    pub ended : ends reached (parts_of script).1 machine last
    pub wrote : Appends start.written written (texts_of replies ++ reply_text last)
    pub lines_are : counts.lines ≡ length (lines_of script)
    pub refused_are : counts.refused ≡ refusals_of replies + one_if (is_refusal last)
    pub within : lines_within script ≡ lines_of script
    pub at_end : left ≡ Some []

  -- where it ends, by what it answered; out of memory, nothing was read or written
  abbrev pub EndsBy : Start V → Option (List ℕ) → Option (List ℕ) → V → Result Counts RunFault → Type 0
  EndsBy start left written machine (Ok counts) = IfSome start.left (λ script. Ended start script left written machine counts)
  EndsBy start left written machine (Err Read) = IfSome start.left (λ script. Broken makes ends start script left written machine)
  EndsBy start left written machine (Err Write) = IfSome start.left (λ script. Cut makes ends start script left written machine)
  EndsBy start left written machine (Err TooManyTurns) = IfSome start.left (λ script. Exceeded makes ends start script left written machine)
  EndsBy start left written machine (Err Memory) = Keeps start.left left × Keeps start.written written × (machine ≡ start.machine)

-- How a run ends, by what the engine for lines ended with.

-- the engine's counts
abbrev pub counts_of : engine.Counts → Counts
counts_of counts = record { lines = counts.lines; refused = counts.refused }

-- a run whose handler is never closed ends so
abbrev pub run_ended : Result engine.Counts LinesFault → Result Counts RunFault
run_ended (Ok counts) = Ok (counts_of counts)
run_ended (Err lines.Read) = Err Read
run_ended (Err lines.Write) = Err Write
run_ended (Err lines.TooManyLines) = Err TooManyTurns
run_ended (Err lines.EndlessLine) = Err TooManyTurns
run_ended (Err lines.Closed) = Err TooManyTurns

-- the engine ended with at most a million lines, and the run so
pub record HasRun {V G : Type 0} (handling : Handling V G) (start : Start V) (left written : Option (List ℕ)) (machine : V) (result : Result Counts RunFault) : Type 0 where
  pub ended : Result engine.Counts LinesFault
  pub has_ended : HasEnded handling MAX_LINES start left written machine ended
  pub unclosed : ended ≢ Err lines.Closed
  pub is : result ≡ run_ended ended

-- What waits while a line is read, and how often its source is polled.

-- all that was written was flushed, unless the writer failed or nothing was read
abbrev pub Flushes : {T : Type 0} → Result T RunFault → Type 0 → Type 0
Flushes (Ok ended) flushed = flushed
Flushes (Err Read) flushed = flushed
Flushes (Err TooManyTurns) flushed = flushed
Flushes (Err Write) flushed = Unit {0}
Flushes (Err Memory) flushed = Unit {0}

-- the most polls for a line: one for each of a billion bytes, and one for its end
abbrev pub polls_of_line : ℕ
polls_of_line = ENDLESS + 1

-- the most polls for a million lines, and one for what comes after them
abbrev pub polls_of_input : ℕ
polls_of_input = MAX_LINES * polls_of_line + 1

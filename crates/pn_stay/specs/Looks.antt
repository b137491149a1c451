-- Looks for the replies to lines, and room for the records that replies keep.
use Rattle.std.specs.Prelude.{◌==◌, ℕ, Option, None, Some, if◌then◌else◌, ◌≡◌, ◌⊎◌, ◌+◌, ◌^◌, List, IfSome}
use Rattle.pn_line.specs.Prelude.{kept_bytes}
use Rattle.pn_lines.specs.Answers.{AnswerValue, AnswersBy}
use Rattle.pn_lines.specs.Handling.{Answers, Handling, by}
use Rattle.pn_lines.specs.declared.handler.LineOutcome.{LineOutcome}
use Rattle.pn_lines.specs.declared.handler.LineOutcome.TheVariants.{Done, Pending as GoesOn}
use Rattle.pn_lines.specs.declared.handler.EndedBy.{EndedBy}
use Rattle.pn_lines.specs.declared.handler.LineReply.{LineReply}
use Rattle.pn_live.specs.Readers.{LiveReaderValue}
use Rattle.pn_serve.specs.Session.Resuming.{reads_lines, KnowsNoLess, pending_left, most_left}
use Rattle.pn_serve.specs.declared.machine.line_answers.ReplyPieces.{ReplyPieces}
use Rattle.pn_serve.specs.declared.sessions.pending_lookup.PendingLookup.{PendingLookup}
use Rattle.pn_stay.specs.declared.room.Room.{Room}
use Rattle.pn_stay.specs.declared.room.Room.TheVariants.{Given, Unasked, Wanted}
use Rattle.pn_stay.specs.declared.bounded_reader.AskedLine.{AskedLine}
use Rattle.pn_stay.specs.declared.bounded_reader.BoundedLookup.{BoundedLookup}
use Rattle.pn_stay.specs.declared.bounded_reader.BoundedLookup.TheVariants.{PutOff, Under}
use Rattle.pn_stay.specs.declared.bounded_reader.TheConstants.{MAX_WAITS}

-- Room for the records that replies keep.

-- for how many bytes a line waits
abbrev pub wanted_in : Room → ℕ
wanted_in Unasked = 0
wanted_in (Wanted number bytes) = bytes
wanted_in (Given line bytes) = 0

-- for how many a line was let in
abbrev pub given_in : Room → ℕ
given_in Unasked = 0
given_in (Wanted number bytes) = 0
given_in (Given line bytes) = bytes

-- the number of a line that waits
abbrev pub number_in : Room → Option ℕ
number_in Unasked = None
number_in (Wanted number bytes) = Some number
number_in (Given line bytes) = None

-- a line that waits has this number if it had none
abbrev pub numbered : ℕ → Room → Room
numbered number Unasked = Unasked
numbered number (Wanted own bytes) = Wanted (if own == 0 then number else own) bytes
numbered number (Given line bytes) = Given line bytes

-- a line that waits is let in for what it waits for
abbrev pub let_in : ℕ → Room → Room
let_in line Unasked = Unasked
let_in line (Wanted number bytes) = Given line bytes
let_in line (Given own bytes) = Given own bytes

-- a line was put off for `bytes`, now or before
abbrev pub put_off_for : ℕ → Room → Room
put_off_for bytes Unasked = Wanted 0 bytes
put_off_for bytes (Wanted number waits) = Wanted number waits
put_off_for bytes (Given line was) = Wanted 0 bytes

-- room that was given is kept for its line alone
abbrev pub kept_for : ℕ → Room → Room
kept_for pending Unasked = Unasked
kept_for pending (Wanted number bytes) = Unasked
kept_for pending (Given line bytes) = if line == pending then Given line bytes else Unasked

-- while that is looked for
abbrev pub kept_after : Option ℕ → Room → Room
kept_after None room = Unasked
kept_after (Some pending) room = kept_for pending room

-- after a turn in which a line was put off, or none
abbrev pub after_turn : Option ℕ → Option ℕ → Room → Room
after_turn None pending room = kept_after pending room
after_turn (Some bytes) pending room = put_off_for bytes room

-- Looks for the replies to lines, which are put off where there is no room for what they keep.

-- a line is kept with what ended it
pub record KeepsLine (ended : EndedBy) (line : List ℕ) (kept : AskedLine) : Type 0 where
  pub bytes_are : kept.bytes.items ≡ kept_bytes line
  pub ended_is : kept.ended ≡ ended

-- what a session's reader does with lines, where others have it between two looks
abbrev pub session_reads : Handling LiveReaderValue PendingLookup
session_reads = reads_lines KnowsNoLess

-- a line is looked up so far, since the reader was so or later
pub record IsLookedUp (was : LiveReaderValue) (ended : EndedBy) (line : List ℕ) (now : LiveReaderValue) (look : PendingLookup) : Type 0 where
  pub begun : LiveReaderValue
  pub moved : KnowsNoLess was begun
  pub goes : session_reads.goes begun ended line now look

-- a line is looked up so far; or it was before, that was given up, and the line is kept
abbrev pub LooksOrWaits : LiveReaderValue → EndedBy → List ℕ → LiveReaderValue → BoundedLookup → Type 0
LooksOrWaits was ended line now (Under look kept) = KnowsNoLess was now × IsLookedUp was ended line now look × IfSome kept (KeepsLine ended line)
LooksOrWaits was ended line now (PutOff kept weight waits) =
    KnowsNoLess was now × KeepsLine ended line kept
    × ((reached : LiveReaderValue) × (look : PendingLookup) × IsLookedUp was ended line reached look × KnowsNoLess reached now)

-- lines are answered as a session answers them, at once or after they were put off
abbrev pub bounded_reads : Handling LiveReaderValue BoundedLookup
bounded_reads = by KnowsNoLess (Answers session_reads) LooksOrWaits (λ _. ⊥)

-- how much of a look is left: more while it may be put off, and less with each wait
abbrev pub look_left : BoundedLookup → ℕ
look_left (Under look None) = pending_left look
look_left (Under look (Some kept)) = pending_left look + most_left + 2 ^ 64 + 1
look_left (PutOff kept weight waits) = most_left + waits

-- a session's answer, with the line that is kept of it
abbrev pub under : Option AskedLine → LineOutcome PendingLookup ReplyPieces → LineOutcome BoundedLookup ReplyPieces
under kept (Done reply) = Done reply
under kept (GoesOn look) = GoesOn (Under look kept)

-- a session's answer to a line, with the line if there is memory for it
abbrev pub LooksFor : List ℕ → EndedBy → LineOutcome PendingLookup ReplyPieces → LineOutcome BoundedLookup ReplyPieces → Type 0
LooksFor bytes ended answer result =
    (kept : Option AskedLine) × IfSome kept (λ line. (line.bytes.items ≡ bytes) × (line.ended ≡ ended)) × (result ≡ under kept answer)

-- a reply is handed over, or its line is put off
abbrev pub Settles : LineReply ReplyPieces → Option AskedLine → LineOutcome BoundedLookup ReplyPieces → Type 0
Settles reply kept answer = (answer ≡ Done reply) ⊎ ((line : AskedLine) × (weight : ℕ) × (kept ≡ Some line) × (answer ≡ GoesOn (PutOff line weight MAX_WAITS)))

-- a look is gone on with
abbrev pub LooksOn : LiveReaderValue → LiveReaderValue → PendingLookup → Option AskedLine → AnswerValue BoundedLookup → Type 0
LooksOn old new look kept answer = (was between : LiveReaderValue) (ended : EndedBy) (line : List ℕ) → LooksOrWaits was ended line between (Under look kept)
    → KnowsNoLess between old → AnswersBy bounded_reads was ended line new answer

-- a line that was put off is asked again, or waits on
abbrev pub AsksAgain : LiveReaderValue → LiveReaderValue → AskedLine → ℕ → AnswerValue BoundedLookup → Type 0
AsksAgain old new kept waits answer = (was between : LiveReaderValue) (ended : EndedBy) (line : List ℕ) (weight : ℕ)
    → LooksOrWaits was ended line between (PutOff kept weight waits) → KnowsNoLess between old → AnswersBy bounded_reads was ended line new answer

-- Lookups of a session that are resumed, and a session's reader as the engine for lines uses it.
use Rattle.std.specs.Prelude.{◌≡◌, ◌⊎◌, ◌≤◌, ◌+◌, ◌-◌, ◌*◌, ◌^◌, ℕ, List, [], ◌∷◌, length, false, Option, None, Result, Ok, Err}
use Rattle.pn_join.specs.Marks.{Positions}
use Rattle.pn_join.specs.declared.memory.NoMemory.{NoMemory}
use Rattle.pn_record.specs.Sets.{CellValue}
use Rattle.pn_tablet.specs.Copies.{TabletCopyValue}
use Rattle.pn_tablet.specs.Layouts.{Bounds}
use Rattle.pn_tablet.specs.Tablets.{TabletStateValue}
use Rattle.pn_tablet.specs.declared.copy_count.CopyStep.{CopyStep}
use Rattle.pn_tablet.specs.declared.copy_count.CopyStep.TheVariants as copies
use Rattle.pn_scan.specs.declared.view.ScanFault.{ScanFault}
use Rattle.pn_scan.specs.declared.page_walk.PageStep.{PageStep}
use Rattle.pn_scan.specs.Queries.{QueryValue}
use Rattle.pn_scan.specs.Paging.{Gaps, IsNewWalk, IsOnPage, LookMade, Moving, steps_left, work_left, Stays}
use Rattle.pn_scan.specs.declared.walk.TheConstants.{UNIT_WORK}
use Rattle.pn_scan.specs.declared.page_walk.PageStep.TheVariants as pages
use Rattle.pn_protocol.specs.Command.Lines.{lookup_at}
use Rattle.pn_protocol.specs.Command.Meaning.{CommandValue, copy, get, scan}
use Rattle.pn_protocol.specs.declared.command.word.LineKind.{LineKind}
use Rattle.pn_protocol.specs.declared.refusal.Refusal.TheVariants.{Memory}
use Rattle.pn_protocol.specs.declared.reply.Reply.TheVariants.{Refused}
use Rattle.pn_protocol.specs.Reply.Texts.{ShowsFound, copy_reply, is_refusal, reply_text}
use Rattle.pn_protocol.specs.Reply.Records.{get_data, scan_data}
use Rattle.pn_protocol.specs.declared.reply.Reply.{Reply}
use Rattle.pn_protocol.specs.declared.command.word.LineKind.TheVariants as kinds
use Rattle.pn_lines.specs.Handling.{Handling, by, Replied}
use Rattle.pn_lines.specs.declared.handler.EndedBy.{EndedBy}
use Rattle.pn_live.specs.Lookups.{IsCopied, EndsGet, GetWalkValue, IsNewGet, IsOnGet}
use Rattle.pn_live.specs.Readers.{LiveReaderValue, LooksLive, tablets_of}
use Rattle.pn_live.specs.Laws.{AllKnowMore}
use Rattle.pn_serve.specs.declared.machine.line_answers.LineOutcome.{LineOutcome}
use Rattle.pn_serve.specs.declared.machine.line_answers.LineOutcome.TheVariants.{Done, Pending as Begun}
use Rattle.pn_serve.specs.declared.sessions.pending_lookup.PendingLookup.{PendingLookup}
use Rattle.pn_serve.specs.declared.sessions.pending_lookup.PendingLookup.TheVariants.{Page, Keys, Copy}
use Rattle.pn_serve.specs.declared.sessions.pending_lookup.TheConstants.{UNIT_LINES}
use Rattle.pn_serve.specs.Session.Lines.{LooksUp, AnswersLine, EndsLines}
use Rattle.pn_serve.specs.Lines.{Replies, by_end}
use Rattle.pn_serve.specs.declared.sessions.AloneReader.{AloneReader}

-- Lookups of a session that are resumed.

-- a copy was taken by one look, after which the reader may move, and is what is counted
pub record IsOnCopy (moves : Moving LiveReaderValue) (was : LiveReaderValue) (need : Positions) (tablet : ℕ) (now : LiveReaderValue) (taken : TabletCopyValue) : Type 0 where
  pub within : tablet ≤ length was.layout
  pub found : Option TabletStateValue
  pub reached : LiveReaderValue
  pub copied : IsCopied was need reached (Ok taken) (tablet, found)
  pub moved : moves reached now

-- a command is looked up so far
abbrev pub LooksOn : Moving LiveReaderValue → LiveReaderValue → CommandValue → LiveReaderValue → PendingLookup → Type 0
LooksOn moves was (scan query) now (Page asked walk) = (asked ≡ query) × ((trace : List (LookMade LiveReaderValue)) × IsOnPage LooksLive was.layout query walk trace × Gaps moves was trace now)
LooksOn moves was (get keys) now (Keys walk) = (walk.keys ≡ keys) × ((trace : List (LookMade LiveReaderValue)) × IsOnGet was.layout walk trace × Gaps moves was trace now)
LooksOn moves was (copy need tablet) now (Copy count) = IsOnCopy moves was need tablet now count.copy
LooksOn moves was command now pending = ⊥

-- a command has its reply, or is looked up so far
abbrev pub LooksTo : Moving LiveReaderValue → LiveReaderValue → CommandValue → LiveReaderValue → LineOutcome → Type 0
LooksTo moves was command now (Done reply) = LooksUp moves was command now reply
LooksTo moves was command now (Begun pending) = LooksOn moves was command now pending

-- what a page is answered with: its rows, why there are none, or that it is to be resumed
abbrev pub PageAnswer : QueryValue → Result PageStep ScanFault → LineOutcome → Type 0
PageAnswer query (Ok (pages.Done page)) (Done reply) = ShowsFound scan_data (Ok (page.rows.items, page.next)) reply
PageAnswer query (Ok (pages.Next walk)) (Begun pending) = pending ≡ Page query walk
PageAnswer query (Err fault) (Done reply) = ShowsFound scan_data (Err fault) reply
PageAnswer query step answer = ⊥

-- what a get is answered with, by these looks: the cells of its keys, why there are none, or that it is to be resumed
abbrev pub KeysAnswer : Bounds → List (LookMade LiveReaderValue) → Result GetWalkValue ScanFault → LineOutcome → Type 0
KeysAnswer bounds trace (Ok walk) (Done reply) = (shown : Result (List (Option CellValue)) ScanFault) × EndsGet bounds walk.keys shown trace × ShowsFound (get_data walk.keys) shown reply
KeysAnswer bounds trace (Ok walk) (Begun pending) = pending ≡ Keys walk
KeysAnswer bounds trace (Err fault) (Done reply) = ShowsFound {A = List (Option CellValue)} (λ cells. get_data [] cells) (Err fault) reply
KeysAnswer bounds trace (Err fault) (Begun pending) = ⊥

-- what a copy is answered with, once its lines are counted
abbrev pub CopyAnswer : Result CopyStep NoMemory → LineOutcome → Type 0
CopyAnswer (Ok (copies.Done text)) (Done reply) = (is_refusal reply ≡ false) × (reply_text reply ≡ copy_reply text.copy)
CopyAnswer (Ok (copies.Next count)) (Begun pending) = pending ≡ Copy count
CopyAnswer (Err fault) (Done reply) = reply ≡ Refused Memory
CopyAnswer step answer = ⊥

-- a line reads as a command that is looked up so far
pub record LooksFor (moves : Moving LiveReaderValue) (was : LiveReaderValue) (line : List ℕ) (now : LiveReaderValue) (pending : PendingLookup) : Type 0 where
  pub command : CommandValue
  pub reads : lookup_at line ≡ Ok command
  pub so_far : LooksOn moves was command now pending

-- the same for the last part of a line, which is not empty
abbrev pub LooksForLast : Moving LiveReaderValue → LiveReaderValue → List ℕ → LiveReaderValue → PendingLookup → Type 0
LooksForLast moves was [] now pending = ⊥
LooksForLast moves was (b ∷ part) now pending = LooksFor moves was (b ∷ part) now pending

-- how many units of work a step of a page was; where there was a fault, at most this number
abbrev pub CountsStep : ℕ → Result PageStep ScanFault → ℕ → Type 0
CountsStep units (Ok (pages.Done page)) used = used ≡ 0
CountsStep units (Ok (pages.Next walk)) used = used ≡ walk.units
CountsStep units (Err fault) used = used ≤ units

-- of what a lookup had left, no more was done than these units of work are
abbrev pub CountsUnits : LineOutcome → PendingLookup → ℕ → Type 0
CountsUnits (Done reply) pending used = Unit {0}
CountsUnits (Begun (Page asked next)) (Page query walk) used = (work_left query walk.part ≤ work_left query next.part + UNIT_WORK * used) ⊎ (next.part ≡ None)
CountsUnits (Begun (Keys next)) (Keys walk) used = next.read ≤ walk.read + used
CountsUnits (Begun (Copy next)) (Copy count) used = next.index ≤ count.index + UNIT_LINES * used
CountsUnits answer pending used = Unit {0}

-- how much of a lookup is left: its tablets, then the steps of the look into one; its keys; or its cells
abbrev pub pending_left : PendingLookup → ℕ
pending_left (Page query walk) = (walk.end - walk.next) * 2 ^ 129 + steps_left walk.part
pending_left (Keys walk) = length walk.keys - walk.read
pending_left (Copy count) = length count.copy.cells - count.index

-- a lookup that begins has less left than this
abbrev pub most_left : ℕ
most_left = 2 ^ 194

-- the kind of a line that is looked up so far
abbrev pub kind_of : PendingLookup → LineKind
kind_of (Page query walk) = kinds.Scan
kind_of (Keys walk) = kinds.Get
kind_of (Copy count) = kinds.Copy

-- how far a page's look is from its end is counted in 128 bits
abbrev pub HasFew : Result PageStep ScanFault → Type 0
HasFew (Ok (pages.Done page)) = Unit {0}
HasFew (Ok (pages.Next walk)) = steps_left walk.part ≤ 2 ^ 128
HasFew (Err fault) = Unit {0}

-- a page of which nothing was looked for
abbrev pub IsNewPage : Bounds → QueryValue → PendingLookup → Type 0
IsNewPage bounds query (Page asked walk) = (asked ≡ query) × IsNewWalk bounds query walk
IsNewPage bounds query (Keys walk) = ⊥
IsNewPage bounds query (Copy count) = ⊥

-- keys of which none was read
abbrev pub AreNewKeys : List (List ℕ) → PendingLookup → Type 0
AreNewKeys keys (Page asked walk) = ⊥
AreNewKeys keys (Keys walk) = IsNewGet keys walk
AreNewKeys keys (Copy count) = ⊥

-- Lines that are answered at once, or by looks that are resumed.

-- how much of a look an answer leaves
abbrev pub answer_left : LineOutcome → ℕ
answer_left (Done reply) = 0
answer_left (Begun pending) = pending_left pending + 1

-- by the relation of a handler to lines, and the one to lines that were begun: the line has its reply, or was begun
abbrev pub AnswersWith : {V : Type 0} → (V → List ℕ → V → Reply → Type 0) → (V → List ℕ → V → PendingLookup → Type 0) → V → List ℕ → V → LineOutcome → Type 0
AnswersWith makes goes was text now (Done reply) = makes was text now reply
AnswersWith makes goes was text now (Begun pending) = goes was text now pending

-- What the reader of a session knows.

-- it reads the same tablets, and its history of each only grew
pub record KnowsNoLess (old new : LiveReaderValue) : Type 0 where
  pub tablets : tablets_of new ≡ tablets_of old
  pub known : AllKnowMore old.tablet_readers new.tablet_readers

-- A session's reader as the engine for lines uses it.

-- a line is looked up so far; where the lookup is given up, the line has a reply all the same
pub record LooksInto (moves : Moving LiveReaderValue) (was : LiveReaderValue) (ended : EndedBy) (text : List ℕ) (now : LiveReaderValue) (pending : PendingLookup) : Type 0 where
  pub looks : by_end (LooksFor moves) (LooksForLast moves) was ended text now pending
  pub gives_up : (later : LiveReaderValue) → moves now later → (replied : Replied) × ((between : LiveReaderValue) × moves was between × Replies (AnswersLine moves) (EndsLines moves) between ended text later replied)

-- it answers lines, or looks for their replies, by what may become of it between two looks; further lines are always answered
abbrev pub reads_lines : Moving LiveReaderValue → Handling LiveReaderValue PendingLookup
reads_lines moves = by moves (Replies (AnswersLine moves) (EndsLines moves)) (LooksInto moves) (λ _. ⊥)

-- the same by the reader of a handler that is alone
abbrev pub reads_by : {V : Type 0} → (V → LiveReaderValue) → Handling V PendingLookup
reads_by see =
    by Stays (λ was ended text now replied. Replies (AnswersLine Stays) (EndsLines Stays) (see was) ended text (see now) replied)
    (λ was ended text now pending. LooksInto Stays (see was) ended text (see now) pending) (λ _. ⊥)

-- A reader that a session has alone, as the engine for lines uses it.

-- what it reads by
abbrev pub reader_of : AloneReader → LiveReaderValue
reader_of alone = alone.reader.now

abbrev pub alone_reads : Handling AloneReader PendingLookup
alone_reads = reads_by reader_of

-- it knows no less, and is the same reader
abbrev pub KeepsReader : AloneReader → AloneReader → Type 0
KeepsReader old new = KnowsNoLess old.reader.now new.reader.now × (new.reader.ghost_name ≡ old.reader.ghost_name)

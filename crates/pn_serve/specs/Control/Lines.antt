-- What a control session does with a line, as the engine for lines uses it, and where it ends.
use Rattle.std.specs.Prelude.{◌≡◌, ℕ, ◌-◌, nat_le, Bool, true, false, List, [], ◌∷◌, Option, None, Some, ◌⊎◌, ◌++◌, length, IfSome, Result, Ok, Err}
use Rattle.std.specs.Io.KnownBytes.{Appends}
use Rattle.pn_line.specs.Text.{LinesRead}
use Rattle.pn_line.specs.declared.line_buffer.TheConstants.{ENDLESS}
use Rattle.pn_scan.specs.Paging.{Stays as ViewStays}
use Rattle.pn_protocol.specs.declared.reply.Reply.{Reply}
use Rattle.pn_protocol.specs.declared.reply.Reply.TheVariants.{Silent, Stopping}
use Rattle.pn_protocol.specs.Reply.Texts.{reply_text}
use Rattle.pn_lines.specs.Handling.{Handling, by}
use Rattle.pn_lines.specs.declared.driver.LinesFault.{LinesFault}
use Rattle.pn_lines.specs.declared.engine.Counts.{Counts}
use Rattle.pn_lines.specs.Driving.{Start}
use Rattle.pn_lines.specs.declared.driver.LinesFault.TheVariants as lines
use Rattle.pn_live.specs.Readers.{LiveReaderValue}
use Rattle.pn_serve.specs.Control.Steps.{AdoptsText, StepsBy, StepsLast}
use Rattle.pn_serve.specs.Machine.Turns.{unless_call, with_line}
use Rattle.pn_serve.specs.Machine.Outcomes.{Mode, Outcome, awaits_command, announced}
use Rattle.pn_serve.specs.Session.Resuming.{KnowsNoLess}
use Rattle.pn_serve.specs.declared.control.steps.ControlStep.{ControlStep}
use Rattle.pn_serve.specs.declared.control.steps.ControlStep.TheVariants.{Replies, Announces, Stops, Ends}
use Rattle.pn_serve.specs.Lines.{Replies as RepliesBy, texts_of, AllAnswer, Broken, Cut}
use Rattle.pn_serve.specs.declared.sessions.pending_lookup.PendingLookup.{PendingLookup}
use Rattle.pn_serve.specs.Script.Written.{parts_of}
use Rattle.pn_serve.specs.declared.script.RunFault.{RunFault}
use Rattle.pn_serve.specs.declared.script.RunFault.TheVariants.{Read, Write, TooManyTurns, Memory}

-- What a control session does with a line: its reply, and the session afterwards.

-- a control session between two lines: its reader, what the next line is, after how many seconds the server is to end, once that
-- was asked for, and whether the writer takes no command any more
pub record ControlState : Type 0 where
  pub reader : LiveReaderValue
  pub mode : Mode
  pub stop : Option ℕ
  pub over : Bool

-- a session whose next line is a command
abbrev pub at_rest : LiveReaderValue → ControlState
at_rest reader = record { reader = reader; mode = awaits_command; stop = None; over = false }

-- no further line is answered
abbrev pub closed_by : Option ℕ → Bool → Bool
closed_by None over = over
closed_by (Some seconds) over = true

abbrev pub is_closed : ControlState → Bool
is_closed state = closed_by state.stop state.over

-- its reader knows no less
abbrev pub KeepsKnowing : ControlState → ControlState → Type 0
KeepsKnowing old new = KnowsNoLess old.reader new.reader

-- the session after a step
abbrev pub after_step : LiveReaderValue → ControlStep → ControlState
after_step reader (Replies shown) = at_rest reader
after_step reader (Announces lines) = record { reader = reader; mode = announced lines (Some []); stop = None; over = false }
after_step reader (Stops said) = record { reader = reader; mode = awaits_command; stop = Some said.seconds; over = false }
after_step reader Ends = record { reader = reader; mode = awaits_command; stop = None; over = true }

-- the reply of a step
abbrev pub reply_of : ControlStep → Reply
reply_of (Replies shown) = shown
reply_of (Announces lines) = Silent
reply_of (Stops said) = Stopping said.seconds
reply_of Ends = Silent

-- a line came to such a step
pub record Comes (steps : LiveReaderValue → ControlStep → Type 0) (new : ControlState) (shown : Reply) : Type 0 where
  pub reader : LiveReaderValue
  pub step : ControlStep
  pub stepped : steps reader step
  pub state : new ≡ after_step reader step
  pub replied : shown ≡ reply_of step

-- the session stays as it is, without a reply
abbrev pub Stays : ControlState → ControlState → Reply → Type 0
Stays old new shown = (new ≡ old) × (shown ≡ Silent)

-- an announced text is adopted
abbrev pub Adopts : ControlState → Option (List ℕ) → ControlState → Reply → Type 0
Adopts old came new shown = Comes (λ reader step. (reader ≡ old.reader) × AdoptsText came step) new shown

-- an announced line came: the text of the last one is adopted, and before it the next line is waited for
abbrev pub TakesLine : Bool → ControlState → ℕ → Option (List ℕ) → ControlState → Reply → Type 0
TakesLine true old left came new shown = Adopts old came new shown
TakesLine false old left came new shown = (new ≡ record old { mode = announced (left - 1) came }) × (shown ≡ Silent)

-- a line is a command, or was announced
abbrev pub AnswersIn : Mode → ControlState → List ℕ → ControlState → Reply → Type 0
AnswersIn awaits_command old line new shown = Comes (StepsBy old.reader line) new shown
AnswersIn (announced left came) old line new shown = (outcome : Outcome) × TakesLine (nat_le left 1) old left (unless_call outcome (with_line came line (10 ∷ []))) new shown

-- what a line comes to, unless no further line is answered
abbrev pub AnswersUnless : Bool → ControlState → List ℕ → ControlState → Reply → Type 0
AnswersUnless true old line new shown = Stays old new shown
AnswersUnless false old line new shown = AnswersIn old.mode old line new shown

-- a line of a control session was answered
abbrev pub AnswersControl : ControlState → List ℕ → ControlState → Reply → Type 0
AnswersControl old line new shown = AnswersUnless (is_closed old) old line new shown

-- the input ended after this part of a line
abbrev pub EndsIn : Mode → ControlState → List ℕ → ControlState → Reply → Type 0
EndsIn awaits_command old [] new shown = Stays old new shown
EndsIn awaits_command old (b ∷ part) new shown = Comes (StepsLast old.reader (b ∷ part)) new shown
EndsIn (announced left came) old part new shown = (outcome : Outcome) × Adopts old (unless_call outcome (with_line came part [])) new shown

abbrev pub EndsUnless : Bool → ControlState → List ℕ → ControlState → Reply → Type 0
EndsUnless true old part new shown = Stays old new shown
EndsUnless false old part new shown = EndsIn old.mode old part new shown

-- the input of a control session ended after this part of a line
abbrev pub EndsControl : ControlState → List ℕ → ControlState → Reply → Type 0
EndsControl old part new shown = EndsUnless (is_closed old) old part new shown

-- A control session as the engine for lines uses it.

-- no further line is answered
abbrev pub HasClosed : ControlState → Type 0
HasClosed state = is_closed state ≡ true

-- it begins no line, and ends between two lines once it is closed
abbrev pub controls : Handling ControlState PendingLookup
controls = by ViewStays (RepliesBy AnswersControl EndsControl) (λ _ _ _ _ _. ⊥) HasClosed

-- Where a control session ends. It may have any number of lines.

-- what a control session begins with
abbrev pub control_start : LiveReaderValue → Option (List ℕ) → Option (List ℕ) → Start ControlState
control_start reader left written = record { machine = at_rest reader; left = left; written = written }

-- an end without what was counted; a session that was closed has ended as it should
abbrev pub uncounted : Result Counts LinesFault → Result (Unit {0}) RunFault
uncounted (Ok counts) = Ok tt
uncounted (Err lines.Read) = Err Read
uncounted (Err lines.Write) = Err Write
uncounted (Err lines.TooManyLines) = Err TooManyTurns
uncounted (Err lines.EndlessLine) = Err TooManyTurns
uncounted (Err lines.Closed) = Ok tt

-- some lines were read, and the replies to all of them were written
pub record AnsweredSome (start : Start ControlState) (script : List ℕ) (left written : Option (List ℕ)) (state : ControlState) : Type 0 where
  pub lines : List (List ℕ)
  pub read : LinesRead script left lines
  pub replies : List Reply
  pub made : AllAnswer AnswersControl start.machine lines replies state
  pub wrote : Appends start.written written (texts_of replies)

-- the whole input was read, and the replies to its lines and to the part after its last newline were written
pub record AnsweredAll (start : Start ControlState) (script : List ℕ) (left written : Option (List ℕ)) (state : ControlState) : Type 0 where
  pub replies : List Reply
  pub reached : ControlState
  pub made : AllAnswer AnswersControl start.machine (parts_of script).0 replies reached
  pub last : Reply
  pub ended : EndsControl reached (parts_of script).1 state last
  pub wrote : Appends start.written written (texts_of replies ++ reply_text last)
  pub at_end : left ≡ Some []

-- some lines were read, and the replies to all of them were written; the next line is as long as one may be
pub record Endless (start : Start ControlState) (script : List ℕ) (left written : Option (List ℕ)) (state : ControlState) : Type 0 where
  pub broken : Broken AnswersControl EndsControl start script left written state
  pub long : length broken.part ≡ ENDLESS

-- where a session ends that reads this input: with it; once the session was closed, since the server is to stop or the writer
-- takes no command any more; or by a fault
abbrev pub EndsScript : Start ControlState → List ℕ → Option (List ℕ) → Option (List ℕ) → ControlState → Result (Unit {0}) RunFault → Type 0
EndsScript start script left written state (Ok done) = AnsweredAll start script left written state ⊎ ((is_closed state ≡ true) × AnsweredSome start script left written state)
EndsScript start script left written state (Err Read) = Broken AnswersControl EndsControl start script left written state
EndsScript start script left written state (Err Write) = Cut AnswersControl EndsControl start script left written state
EndsScript start script left written state (Err TooManyTurns) = Endless start script left written state
EndsScript start script left written state (Err Memory) = ⊥

-- where a control session ends
abbrev pub ControlEnds : Start ControlState → Option (List ℕ) → Option (List ℕ) → ControlState → Result (Unit {0}) RunFault → Type 0
ControlEnds start left written state result = IfSome start.left (λ script. EndsScript start script left written state result)

-- where a control session ends from its start on, with the reader that it gives back
pub record AnswersClient (start : Start ControlState) (left written : Option (List ℕ)) (reader : LiveReaderValue) (result : Result (Unit {0}) RunFault) : Type 0 where
  pub state : ControlState
  pub is : reader ≡ state.reader
  pub ends : ControlEnds start left written state result

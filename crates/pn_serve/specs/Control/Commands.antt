-- What the writer of a live region does for control sessions, and what it answers.
use Rattle.std.specs.Prelude.{◌≡◌, ◌⊎◌, ℕ, Bool, true, false, if◌then◌else◌, List, ◌∷◌, Option, None, Some, Result, Ok, Err}
use Rattle.pn_json.specs.Tokens.{line_of}
use Rattle.pn_region.specs.Recovery.{after_advance, after_adoption}
use Rattle.pn_region.specs.Events.{RegionEvent}
use Rattle.pn_region.specs.Log.{LoggedRegion}
use Rattle.pn_region.specs.Regions.{RegionValue}
use Rattle.pn_region.specs.declared.fault.AdvanceFault.{AdvanceFault}
use Rattle.pn_region.specs.Events as events
use Rattle.pn_protocol.specs.Reply.Faults.{advance_fault_data}
use Rattle.pn_protocol.specs.Reply.Records.{found_since}
use Rattle.pn_protocol.specs.Reply.Short.{marks_reply_data}
use Rattle.pn_protocol.specs.Reply.Texts.{is_refusal, reply_text}
use Rattle.pn_protocol.specs.declared.reply.Reply.{Reply}
use Rattle.pn_protocol.specs.declared.reply.Reply.TheVariants.{Refused}
use Rattle.pn_protocol.specs.declared.refusal.Refusal.TheVariants.{Memory}
use Rattle.pn_protocol.specs.Command.Controls.{control_at, stop}
use Rattle.pn_protocol.specs.Command.Meaning as command
use Rattle.pn_live.specs.LiveRegions.{LeadsLive, LiveRegionValue, core}
use Rattle.pn_serve.specs.Machine.Doing.{plain_turn, adoption_turn}
use Rattle.pn_serve.specs.Machine.Outcomes.{Turn, machine_over}
use Rattle.pn_serve.specs.declared.control.commands.WriterAnswer.{WriterAnswer}
use Rattle.pn_serve.specs.declared.control.commands.WriterCommand.{WriterCommand}
use Rattle.pn_serve.specs.declared.control.answers.Question.{Question}
use Rattle.pn_serve.specs.declared.control.commands.WriterAnswer.TheVariants as answers
use Rattle.pn_serve.specs.declared.control.commands.WriterCommand.TheVariants as commands
use Rattle.pn_serve.specs.declared.control.answers.Question.TheVariants as question

-- What the writer of a live region does for control sessions.

-- what an answer says: the bytes of the reply, and whether that is a refusal
pub record Said : Type 0 where
  pub text : List ℕ
  pub refused : Bool

-- what a reply says
abbrev pub said_by : Reply → Said
said_by reply = record { text = reply_text reply; refused = is_refusal reply }

-- what the writer's answer says
abbrev pub answer_of : WriterAnswer → Said
answer_of (answers.Reply reply) = said_by reply
answer_of (answers.Found since) = record { text = line_of (found_since since); refused = false }

-- the region with its log that a live region is
abbrev pub logged : LiveRegionValue → LoggedRegion
logged live = record { state = core live; log = live.log }

-- the marks advance, or stay for this fault; scripts have no such command
abbrev pub advance_turn : LoggedRegion → Result RegionValue AdvanceFault → Turn
advance_turn old (Ok after) = record { machine = machine_over (record old { state = after }); reply = line_of (marks_reply_data after.marks); refused = false }
advance_turn old (Err fault) = record { machine = machine_over old; reply = line_of (advance_fault_data fault); refused = true }

-- what the machine of a script would do over the region
abbrev pub asked_turn : LoggedRegion → WriterCommand → Turn
asked_turn old (commands.Adopt copy) = adoption_turn old (after_adoption old.state copy)
asked_turn old commands.Advance = advance_turn old (after_advance old.state)
asked_turn old (commands.Lose tablet) = plain_turn (machine_over old) (command.lose tablet)
asked_turn old commands.Marks = plain_turn (machine_over old) command.marks
asked_turn old (commands.Notices since) = plain_turn (machine_over old) (command.notices since)
asked_turn old commands.Tablets = plain_turn (machine_over old) command.tablets

-- the turn that leaves this region and says this
abbrev pub turn_to : LoggedRegion → Said → Turn
turn_to new said = record { machine = machine_over new; reply = said.text; refused = said.refused }

-- the event that a command is; a question is none
abbrev pub event_of : WriterCommand → Option RegionEvent
event_of (commands.Adopt copy) = Some (events.adoption copy)
event_of commands.Advance = Some events.advance
event_of (commands.Lose tablet) = Some (events.loss tablet)
event_of asked = None

-- the event that came about; a refused command is none
abbrev pub event_by : WriterCommand → Said → Option RegionEvent
event_by asked said = if said.refused then None else event_of asked

-- the event, if there was one, before others
abbrev pub with_event : Option RegionEvent → List RegionEvent → List RegionEvent
with_event None later = later
with_event (Some event) later = event ∷ later

-- the live region after the event, if there was one
abbrev pub IsAfter : Option RegionEvent → LiveRegionValue → LiveRegionValue → Type 0
IsAfter None old new = new ≡ old
IsAfter (Some event) old new = LeadsLive event old new

-- a command was answered as a script over the region would answer it, or memory ran out; and what was done and published is its
-- event, or nothing
pub record ObeysLive (old : LiveRegionValue) (asked : WriterCommand) (new : LiveRegionValue) (said : Said) : Type 0 where
  pub replied : (said ≡ said_by (Refused Memory)) ⊎ (asked_turn (logged old) asked ≡ turn_to (logged new) said)
  pub left : IsAfter (event_by asked said) old new

-- Answers of the writer, each with what it answers.

-- what the writer is asked for; of an adoption the copy is left out
abbrev pub question_of : WriterCommand → Question
question_of (commands.Adopt copy) = question.Adopt
question_of commands.Advance = question.Advance
question_of (commands.Lose tablet) = question.Lose tablet
question_of commands.Marks = question.Marks
question_of (commands.Notices since) = question.Notices since
question_of commands.Tablets = question.Tablets

-- the writer did what this asks for over the live region as it was then, and said so; it adopted some copy
pub record Gives (question : Question) (said : Said) : Type 0 where
  pub told : WriterCommand
  pub is : question_of told ≡ question
  pub old : LiveRegionValue
  pub new : LiveRegionValue
  pub obeyed : ObeysLive old told new said

-- the writer did what this asks for at some time, and said so
abbrev pub IsGiven : Question → Said → Type 0
IsGiven question said = ∥ Gives question said ∥₁

-- A stop that a client asked for.

-- a line says `stop`, within this number of seconds
pub record SaysStop (seconds : ℕ) : Type 0 where
  pub line : List ℕ
  pub says : control_at line ≡ Ok (stop seconds)

-- some line said so
abbrev pub IsSaid : ℕ → Type 0
IsSaid seconds = ∥ SaysStop seconds ∥₁

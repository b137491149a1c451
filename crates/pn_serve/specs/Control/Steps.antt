-- What a line of a control session comes to, by its reader, which counts records, and by what the writer answers.
use Rattle.std.specs.Prelude.{◌≡◌, ◌+◌, ℕ, suc, List, [], ◌∷◌, length, Option, Some, None, Result, Ok, Err, Vec, ◌⊎◌, false}
use Rattle.std.specs.declared.alloc.Global.{Global}
use Rattle.pn_json.specs.Tokens.{line_of}
use Rattle.pn_tablet.specs.Tablets.{TabletStateValue}
use Rattle.pn_tablet.specs.declared.counted_cells.RecordCounts.{RecordCounts}
use Rattle.pn_tablet.specs.Copies.{TabletCopyValue}
use Rattle.pn_tablet.specs.CopyReading.{copy_at}
use Rattle.pn_tablet.specs.declared.fault.CopyTextFault.{CopyTextFault}
use Rattle.pn_scan.specs.declared.view.ScanFault.{ScanFault}
use Rattle.pn_scan.specs.declared.view.ScanFault.TheVariants.{Memory as NoMemory, NoEntry}
use Rattle.pn_scan.specs.Paging.{Stays}
use Rattle.pn_protocol.specs.declared.reply.stats.TabletStats.{TabletStats}
use Rattle.pn_protocol.specs.Command.Controls.{ControlValue, control_at, script, notices, advance, stats, stop}
use Rattle.pn_protocol.specs.Command.Lines.{is_too_long}
use Rattle.pn_protocol.specs.Reply.Faults.{Refuses}
use Rattle.pn_protocol.specs.Reply.Stats.{stats_data}
use Rattle.pn_protocol.specs.declared.refusal.Refusal.{Refusal}
use Rattle.pn_protocol.specs.declared.refusal.Refusal.TheVariants.{Memory}
use Rattle.pn_protocol.specs.declared.reply.Reply.{Reply}
use Rattle.pn_protocol.specs.declared.reply.Reply.TheVariants.{Refused}
use Rattle.pn_protocol.specs.declared.reply.refusals.CommandFault.TheVariants.{CopyText, Lookup}
use Rattle.pn_protocol.specs.declared.reply.stats.Stats.{Stats}
use Rattle.pn_protocol.specs.Command.Meaning as command
use Rattle.pn_live.specs.Lookups.{IsCounted}
use Rattle.pn_live.specs.Readers.{LiveReaderValue}
use Rattle.pn_serve.specs.Control.Commands.{IsGiven, question_of, Said, said_by}
use Rattle.pn_serve.specs.Session.Lines.{LooksUp}
use Rattle.pn_serve.specs.declared.control.commands.WriterCommand.{WriterCommand}
use Rattle.pn_serve.specs.declared.control.steps.ControlStep.{ControlStep}
use Rattle.pn_serve.specs.declared.control.steps.ControlStep.TheVariants.{Replies, Announces, Stops, Ends}
use Rattle.pn_serve.specs.declared.control.steps.ScriptTask.{ScriptTask}
use Rattle.pn_serve.specs.declared.control.commands.WriterCommand.TheVariants as commands
use Rattle.pn_serve.specs.declared.control.steps.ScriptTask.TheVariants as task

-- The records of tablets, as the reader of a control session counts them.

-- the counts of a tablet as they are shown
abbrev pub stats_of : RecordCounts → TabletStats
stats_of counts = record { records = counts.records; deleted = counts.deleted }

-- the tablets from this one on were counted, each by one look
abbrev pub AreCounted : LiveReaderValue → ℕ → List TabletStats → LiveReaderValue → Type 0
AreCounted old tablet [] new = new ≡ old
AreCounted old tablet (shown ∷ more) new =
    (between : LiveReaderValue) × (counts : RecordCounts) × (found : Option TabletStateValue) × IsCounted old between (Some counts) (tablet, found) × (shown ≡ stats_of counts) × AreCounted between (suc tablet) more new

-- some tablets were counted, and the look into the next one was refused
pub record EndsRefused (old new : LiveReaderValue) : Type 0 where
  pub before : List TabletStats
  pub between : LiveReaderValue
  pub found : Option TabletStateValue
  pub counted : AreCounted old 0 before between
  pub refused : IsCounted between new None (length before, found)

-- all tablets were counted in their order, or one could not be entered, or memory ran out before
abbrev pub CountsTablets : LiveReaderValue → LiveReaderValue → Result (Vec TabletStats Global) ScanFault → Type 0
CountsTablets old new (Ok shown) = AreCounted old 0 shown.items new × (length shown.items ≡ length old.layout + 1)
CountsTablets old new (Err NoEntry) = EndsRefused old new
CountsTablets old new (Err NoMemory) = new ≡ old
CountsTablets old new (Err why) = ⊥

-- What a line of a control session comes to, by its reader and by what the writer answers.

-- the line came to a reply of which this holds
abbrev pub RepliesWith : (Reply → Type 0) → ControlStep → Type 0
RepliesWith holds (Replies shown) = holds shown
RepliesWith holds step = ⊥

-- the reply says what was said, or that memory ran out
abbrev pub Says : Said → Reply → Type 0
Says said shown = (said_by shown ≡ said) ⊎ (shown ≡ Refused Memory)

-- the writer answered so
pub record IsShown (asked : WriterCommand) (shown : Reply) : Type 0 where
  pub said : Said
  pub given : IsGiven (question_of asked) said
  pub says : Says said shown

-- the writer answered, or takes no command any more
abbrev pub Asks : WriterCommand → ControlStep → Type 0
Asks asked (Replies shown) = IsShown asked shown
Asks asked Ends = Unit {0}
Asks asked step = ⊥

-- the writer was asked to adopt the copy that a text is; or it is no copy
abbrev pub AdoptsRead : Result TabletCopyValue CopyTextFault → ControlStep → Type 0
AdoptsRead (Ok copy) step = Asks (commands.Adopt copy) step
AdoptsRead (Err fault) step = RepliesWith (Refuses (CopyText fault)) step

-- the writer was asked to adopt the copy of an announced text, unless memory ran out
abbrev pub AdoptsText : Option (List ℕ) → ControlStep → Type 0
AdoptsText None step = step ≡ Replies (Refused Memory)
AdoptsText (Some came) step = AdoptsRead (copy_at came) step ⊎ (step ≡ Replies (Refused Memory))

-- who does a command of scripts that a control session gives
abbrev pub task_of : command.CommandValue → ScriptTask
task_of (command.adopt lines) = task.Announces lines
task_of (command.copy need tablet) = task.LooksUp
task_of (command.deliver deliveries) = task.LooksUp
task_of (command.get keys) = task.LooksUp
task_of (command.lose tablet) = task.Asks (commands.Lose tablet)
task_of command.marks = task.Asks commands.Marks
task_of (command.notices since) = task.LooksUp
task_of (command.read key version) = task.LooksUp
task_of (command.relayout bounds) = task.LooksUp
task_of (command.scan query) = task.LooksUp
task_of command.tablets = task.Asks commands.Tablets

-- a command was done by the reader, or by the writer; or it announces lines
abbrev pub DoesTask : ScriptTask → LiveReaderValue → command.CommandValue → LiveReaderValue → ControlStep → Type 0
DoesTask (task.Announces lines) old asked new step = (new ≡ old) × (step ≡ Announces lines)
DoesTask (task.Asks told) old asked new step = (new ≡ old) × Asks told step
DoesTask task.LooksUp old asked new step = RepliesWith (λ shown. LooksUp Stays old asked new shown) step

-- a command of scripts was done by whom it is for
abbrev pub ObeysScript : LiveReaderValue → command.CommandValue → LiveReaderValue → ControlStep → Type 0
ObeysScript old asked new step = DoesTask (task_of asked) old asked new step

-- the reply shows what some server with these counts of its tablets has done so far, or that memory ran out
abbrev pub ShowsStats : Vec TabletStats Global → Reply → Type 0
ShowsStats tablets shown =
    ((done : Stats) × (done.tablets ≡ tablets) × (said_by shown ≡ record { text = line_of (stats_data done); refused = false }))
    ⊎ (shown ≡ Refused Memory)

-- the counts of the tablets are shown with what the server has done, or why there are none
abbrev pub ShowsCounts : Result (Vec TabletStats Global) ScanFault → Reply → Type 0
ShowsCounts (Ok tablets) shown = ShowsStats tablets shown
ShowsCounts (Err why) shown = Refuses (Lookup why) shown

-- the reader counted the tablets, and the reply shows what came of it
pub record Reports (old new : LiveReaderValue) (step : ControlStep) : Type 0 where
  pub answer : Result (Vec TabletStats Global) ScanFault
  pub counts : CountsTablets old new answer
  pub shows : RepliesWith (ShowsCounts answer) step

-- the server is asked to end within this number of seconds
abbrev pub AsksStop : ℕ → ControlStep → Type 0
AsksStop seconds (Stops said) = said.seconds ≡ seconds
AsksStop seconds step = ⊥

-- a command was done
abbrev pub ObeysControl : LiveReaderValue → ControlValue → LiveReaderValue → ControlStep → Type 0
ObeysControl old (script asked) new step = ObeysScript old asked new step
ObeysControl old (notices since wait) new step = (new ≡ old) × Asks (commands.Notices since) step
ObeysControl old advance new step = (new ≡ old) × Asks commands.Advance step
ObeysControl old stats new step = Reports old new step
ObeysControl old (stop seconds) new step = (new ≡ old) × AsksStop seconds step

-- a line that reads as this was answered
abbrev pub StepsAs : LiveReaderValue → Result ControlValue Refusal → LiveReaderValue → ControlStep → Type 0
StepsAs old (Ok asked) new step = ObeysControl old asked new step
StepsAs old (Err refusal) new step = (new ≡ old) × (step ≡ Replies (Refused refusal))

-- a line was answered as it reads; or memory ran out before it was read, unless it is too long
abbrev pub StepsBy : LiveReaderValue → List ℕ → LiveReaderValue → ControlStep → Type 0
StepsBy old line new step = StepsAs old (control_at line) new step ⊎ ((is_too_long line ≡ false) × (new ≡ old) × (step ≡ Replies (Refused Memory)))

-- where no line can come any more, an announced text is empty
abbrev pub Lasts : ControlStep → ControlStep → Type 0
Lasts (Announces lines) step = AdoptsText (Some []) step
Lasts first step = step ≡ first

-- the last line, which has no newline, was answered; where it announces lines, none comes
pub record StepsLast (old : LiveReaderValue) (part : List ℕ) (new : LiveReaderValue) (step : ControlStep) : Type 0 where
  pub first : ControlStep
  pub steps : StepsBy old part new first
  pub lasts : Lasts first step

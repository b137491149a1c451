-- What a line and the end of the input do to what is served, and their replies.
use Rattle.std.specs.Prelude.{ℕ, ◌-◌, nat_le, if◌then◌else◌, List, [], ◌∷◌, ◌++◌, Option, None, option_map, Bool, Result, Ok, Err, Some, ◌≡◌, ◌⊎◌, ◌<◌, ◌≤◌}
use Rattle.pn_line.specs.Line.{kept_bytes}
use Rattle.pn_join.specs.Marks.{Positions}
use Rattle.pn_tablet.specs.Tablets.{TabletStateValue}
use Rattle.pn_tablet.specs.Steps.{tablet_after}
use Rattle.pn_tablet.specs.declared.state.TabletOp.{TabletOp}
use Rattle.pn_stream.specs.Brokers.{DeliveryValue}
use Rattle.pn_region.specs.Rounds.{new_marks, joins}
use Rattle.pn_region.specs.Regions.{RegionValue}
use Rattle.pn_region.specs.declared.fault.RoundFault.{RoundFault}
use Rattle.pn_region.specs.Log.{with_break, LoggedRegion}
use Rattle.pn_protocol.specs.declared.refusal.Refusal.{Refusal}
use Rattle.pn_protocol.specs.declared.refusal.Refusal.TheVariants.{Memory}
use Rattle.pn_protocol.specs.Command.Meaning.{CommandValue, adopt, deliver, lose}
use Rattle.pn_protocol.specs.Command.Lines.{command_at, is_too_long}
use Rattle.pn_protocol.specs.declared.reply.Reply.{Reply}
use Rattle.pn_protocol.specs.Reply.Texts.{reply_text, is_refusal}
use Rattle.pn_protocol.specs.declared.reply.Reply.TheVariants.{Refused}
use Rattle.pn_serve.specs.Machine.Outcomes.{Outcome, call, announced, Machine, Turn, logged_region, silent_turn, done, line, round, Mode, awaits_command, refusal_turn, machine_over, bytes_of}
use Rattle.pn_serve.specs.Machine.Doing.{text_adoption_turn, plain_turn}
use Rattle.pn_serve.specs.declared.machine.CommandStep.{CommandStep}
use Rattle.pn_serve.specs.declared.machine.adoption.GatherOutcome.{GatherOutcome}
use Rattle.pn_serve.specs.declared.machine.adoption.GatherOutcome.TheVariants.{More, Text}
use Rattle.pn_serve.specs.declared.machine.CommandStep.TheVariants.{Obeyed, Announces}

-- Lines that an `adopt` line announced.

-- the text, unless memory ran out in the call
abbrev pub unless_call : Outcome → Option (List ℕ) → Option (List ℕ)
unless_call call text = None
unless_call outcome text = text

-- the text so far with a line's first 65,537 bytes, and its newline if it has one
abbrev pub with_line : Option (List ℕ) → List ℕ → List ℕ → Option (List ℕ)
with_line text bytes newline = option_map (λ came. came ++ (kept_bytes bytes ++ newline)) text

-- an announced line came: the text of the last one is adopted, and before it the next line is waited for
abbrev pub one_came : Machine → ℕ → Option (List ℕ) → Turn
one_came machine left text = if nat_le left 1 then text_adoption_turn (logged_region machine) text else silent_turn (record machine { mode = announced (left - 1) text })

-- what an announced line does
abbrev pub announced_turn : Machine → ℕ → Option (List ℕ) → Outcome → List ℕ → Turn
announced_turn machine left text outcome bytes = one_came machine left (unless_call outcome (with_line text bytes (10 ∷ [])))

-- the end of the input, after this part of a line, while announced lines are still to come
abbrev pub announced_end : Machine → Option (List ℕ) → Outcome → List ℕ → Turn
announced_end machine text outcome part = text_adoption_turn (logged_region machine) (unless_call outcome (with_line text part []))

-- Rounds that ran out of memory after some tablets took their part.

-- flagged tablets take their operations, and the others stay
abbrev pub some_after : List Bool → List TabletStateValue → List TabletOp → List TabletStateValue
some_after (flag ∷ flags) (t ∷ ts) (operation ∷ operations) = (if flag then tablet_after t operation else t) ∷ some_after flags ts operations
some_after flags ts operations = ts

-- the region after some tablets took a round with these new marks; a refused round reaches no tablet
abbrev pub after_part_with_marks : RegionValue → List DeliveryValue → List Bool → Result Positions RoundFault → RegionValue
after_part_with_marks region deliveries which (Ok next) = record region { tablets = some_after which region.tablets (joins region deliveries next) }
after_part_with_marks region deliveries which (Err fault) = region

-- the region after some tablets took a round
abbrev pub after_part_of_round : RegionValue → List DeliveryValue → List Bool → RegionValue
after_part_of_round region deliveries which = after_part_with_marks region deliveries which (new_marks region.marks deliveries)

-- What a line does to what is served, and its reply.

-- what a command does once it is read; a loss never runs out of memory, announced lines stay announced, and an
-- outcome that a command cannot have counts as done
abbrev pub command_turn : Machine → Outcome → CommandValue → Turn
command_turn machine call (adopt lines) = silent_turn (record machine { mode = announced lines None })
command_turn machine call (lose tablet) = plain_turn machine (lose tablet)
command_turn machine call command = refusal_turn machine Memory
command_turn machine (round which) (deliver deliveries) = refusal_turn (record machine { region = after_part_of_round machine.region deliveries which; log = with_break machine.log }) Memory
command_turn machine outcome command = plain_turn machine command

-- what a line does, by how it reads
abbrev pub turn_of : Machine → Outcome → Result CommandValue Refusal → Turn
turn_of machine line said = refusal_turn machine Memory
turn_of machine outcome (Ok command) = command_turn machine outcome command
turn_of machine outcome (Err refusal) = refusal_turn machine refusal

-- a line that is too long goes as it says, since its length is checked before memory is taken
abbrev pub outcome_at : Outcome → List ℕ → Outcome
outcome_at outcome text = if is_too_long text then done else outcome

-- what a line with its newline does
abbrev pub turn_in : Mode → Machine → Outcome → List ℕ → Turn
turn_in awaits_command machine outcome text = turn_of machine (outcome_at outcome text) (command_at text)
turn_in (announced left came) machine outcome text = announced_turn machine left came outcome text

abbrev pub turn : Machine → Outcome → List ℕ → Turn
turn machine outcome text = turn_in machine.mode machine outcome text

-- The end of the input, and a last line without newline.

-- what the last command does: after an adoption no line comes
abbrev pub last_command_turn : Machine → Outcome → CommandValue → Turn
last_command_turn machine outcome (adopt lines) = text_adoption_turn (logged_region machine) (unless_call outcome (Some []))
last_command_turn machine outcome command = command_turn machine outcome command

-- what a last line without newline does, by how it reads
abbrev pub last_of : Machine → Outcome → Result CommandValue Refusal → Turn
last_of machine line said = refusal_turn machine Memory
last_of machine outcome (Ok command) = last_command_turn machine outcome command
last_of machine outcome (Err refusal) = refusal_turn machine refusal

-- what the end of the input does, after this part of a line
abbrev pub end_in : Mode → Machine → Outcome → List ℕ → Turn
end_in awaits_command machine outcome [] = silent_turn machine
end_in awaits_command machine outcome (b ∷ part) = last_of machine (outcome_at outcome (b ∷ part)) (command_at (b ∷ part))
end_in (announced left came) machine outcome part = announced_end machine came outcome part

abbrev pub end_turn : Machine → Outcome → List ℕ → Turn
end_turn machine outcome part = end_in machine.mode machine outcome part

-- What the program did with a line, a command and the end of the input: one turn, by one outcome.

-- by one outcome, the turn comes to this machine and this reply
pub record Turned (turns : Outcome → Turn) (machine : Machine) (reply : Reply) : Type 0 where
  pub outcome : Outcome
  pub machine_is : (turns outcome).machine ≡ machine
  pub replied : (turns outcome).reply ≡ reply_text reply
  pub refused : (turns outcome).refused ≡ is_refusal reply

-- the line was read, or memory could run out while it was
abbrev pub IsReadUnless : Type 0 → Outcome → Type 0
IsReadUnless may_run_out line = may_run_out
IsReadUnless may_run_out outcome = Unit {0}

-- by one outcome, the turn of a line comes to this machine and this reply; it counts as unread only if memory can run
-- out while a line is read
pub record TurnedBy (may_run_out : Type 0) (turns : Outcome → Turn) (machine : Machine) (reply : Reply) : Type 0 where
  pub outcome : Outcome
  pub read : IsReadUnless may_run_out outcome
  pub machine_is : (turns outcome).machine ≡ machine
  pub replied : (turns outcome).reply ≡ reply_text reply
  pub refused : (turns outcome).refused ≡ is_refusal reply

-- what the program did with a line, and with the end of the input, if memory may run out while a line is read
abbrev pub AnswersBy : Type 0 → Machine → List ℕ → Machine → Reply → Type 0
AnswersBy may_run_out old text new reply = TurnedBy may_run_out (λ outcome. turn old outcome text) new reply

abbrev pub ConcludesBy : Type 0 → Machine → List ℕ → Machine → Reply → Type 0
ConcludesBy may_run_out old part new reply = TurnedBy may_run_out (λ outcome. end_turn old outcome part) new reply

-- what the program did with a line, and with the end of the input, if memory can run out
abbrev pub Answers : Machine → List ℕ → Machine → Reply → Type 0
Answers old text new reply = AnswersBy (Unit {0}) old text new reply

abbrev pub Concludes : Machine → List ℕ → Machine → Reply → Type 0
Concludes old part new reply = ConcludesBy (Unit {0}) old part new reply

-- what the program did with a command
abbrev pub Obeys : Machine → CommandValue → Machine → Reply → Type 0
Obeys old command new reply = Turned (λ outcome. command_turn old outcome command) new reply

-- What parts of a turn come to.

-- a turn of a region comes to this region and this reply, or memory ran out and nothing changed
abbrev pub ComesTo : Turn → LoggedRegion → LoggedRegion → Reply → Type 0
ComesTo turn old new reply =
    ((turn.machine ≡ machine_over new) × (turn.reply ≡ reply_text reply) × (turn.refused ≡ is_refusal reply)) ⊎ ((new ≡ old) × (reply ≡ Refused Memory))

-- the command announces no lines
abbrev pub IsAlone : CommandValue → Type 0
IsAlone (adopt lines) = ⊥
IsAlone command = Unit {0}

-- the first step of a command: it was run, or waits for the lines that it announces
abbrev pub HandlesTo : LoggedRegion → CommandValue → LoggedRegion → CommandStep → Type 0
HandlesTo old command new (Obeyed reply) = IsAlone command × Obeys (machine_over old) command (machine_over new) reply
HandlesTo old command new (Announces lines) = (command ≡ adopt lines) × (new ≡ old)

-- what the program did with a last line without newline
abbrev pub LastsBy : Type 0 → LoggedRegion → List ℕ → LoggedRegion → Reply → Type 0
LastsBy may_run_out old text new reply = TurnedBy may_run_out (λ outcome. last_of (machine_over old) (outcome_at outcome text) (command_at text)) (machine_over new) reply

-- the line was added to the text, or memory ran out
abbrev pub IsJoined : Option (List ℕ) → List ℕ → List ℕ → Option (List ℕ) → Type 0
IsJoined text bytes newline joined = (outcome : Outcome) × (joined ≡ unless_call outcome (with_line text bytes newline))

-- an announced line was added to the text: more are to come, or it was the last one
abbrev pub Gathers : ℕ → Option (List ℕ) → List ℕ → GatherOutcome → Type 0
Gathers left text bytes (More more) = (1 < left) × (more.left ≡ left - 1) × IsJoined text bytes (10 ∷ []) (bytes_of more.text)
Gathers left text bytes (Text whole) = (left ≤ 1) × IsJoined text bytes (10 ∷ []) (bytes_of whole)

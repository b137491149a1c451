-- What lines and inputs do to a region, as its events, and the images that an input took.
use Rattle.std.specs.Prelude.{ℕ, nat_le, Bool, true, if◌then◌else◌, List, [], ◌∷◌, ◌++◌, length, take, Option, None, Some, Result, Ok, Err, ◌≡◌, ◌⊎◌}
use Rattle.std.specs.List.{list_any}
use Rattle.pn_join.specs.Marks.{Positions}
use Rattle.pn_record.specs.declared.records.Image.{Image}
use Rattle.pn_tablet.specs.Copies.{TabletCopyValue}
use Rattle.pn_tablet.specs.CopyReading.{copy_at}
use Rattle.pn_tablet.specs.Tablets.{TabletStateValue}
use Rattle.pn_tablet.specs.declared.fault.CopyTextFault.{CopyTextFault}
use Rattle.pn_stream.specs.Brokers.{DeliveryValue, BrokerRecord}
use Rattle.pn_region.specs.Events.{RegionEvent, AreHonestEvents, all_taken, all_left, LoseNothing}
use Rattle.pn_region.specs.Log.{LoggedRegion}
use Rattle.pn_region.specs.Rounds.{new_marks}
use Rattle.pn_region.specs.Recovery.{after_adoption}
use Rattle.pn_region.specs.declared.fault.RoundFault.{RoundFault}
use Rattle.pn_region.specs.Regions.{RegionValue}
use Rattle.pn_region.specs.Laws.{AreIn}
use Rattle.pn_region.specs.Reads.{AllServe}
use Rattle.pn_region.specs.Events as events
use Rattle.pn_protocol.specs.declared.refusal.Refusal.{Refusal}
use Rattle.pn_protocol.specs.Command.Lines.{command_at}
use Rattle.pn_protocol.specs.Command.Meaning.{CommandValue, deliver, lose, relayout, adopt}
use Rattle.pn_serve.specs.Machine.Turns.{unless_call, with_line, turn_of, outcome_at, turn}
use Rattle.pn_serve.specs.Machine.Outcomes.{Outcome, line, round, Mode, awaits_command, announced, Machine, Turn, logged_region, new_machine}
use Rattle.pn_serve.specs.Machine.Doing.{adoption_turn}
use Rattle.pn_serve.specs.Script.Written.{first_outcome, later_outcomes, machine_after, InputEnd, Input, after_input, region_after}

-- What lines do to a region, as its events.

-- the event happened, unless the turn is a refusal
abbrev pub unless_refused : Turn → RegionEvent → List RegionEvent
unless_refused turn event = if turn.refused then [] else event ∷ []

-- some tablet has a flag
abbrev pub some_tablet : List Bool → List TabletStateValue → Bool
some_tablet which all = list_any (λ flag. flag) (take (length all) which)

-- a round that ran out of memory happened if some tablet took its part; a refused one reaches no tablet
abbrev pub half_round_events : List DeliveryValue → Bool → Result Positions RoundFault → List RegionEvent
half_round_events deliveries true (Ok next) = events.half_round deliveries ∷ []
half_round_events deliveries some right = []

-- what happens by a line, by how it reads: nothing if memory ran out before it was read
abbrev pub events_by : Machine → Outcome → Result CommandValue Refusal → List RegionEvent
events_by machine line said = []
events_by machine (round which) (Ok (deliver deliveries)) = half_round_events deliveries (some_tablet which machine.region.tablets) (new_marks machine.region.marks deliveries)
events_by machine outcome (Ok (deliver deliveries)) = unless_refused (turn_of machine outcome (Ok (deliver deliveries))) (events.round deliveries)
events_by machine outcome (Ok (lose tablet)) = unless_refused (turn_of machine outcome (Ok (lose tablet))) (events.loss tablet)
events_by machine outcome (Ok (relayout bounds)) = unless_refused (turn_of machine outcome (Ok (relayout bounds))) (events.relayout bounds)
events_by machine outcome said = []

-- what happens by an announced text, if it is a copy and memory did not run out
abbrev pub events_by_copy : LoggedRegion → Result TabletCopyValue CopyTextFault → List RegionEvent
events_by_copy old (Ok copy) = unless_refused (adoption_turn old (after_adoption old.state copy)) (events.adoption copy)
events_by_copy old (Err fault) = []

abbrev pub events_by_text : LoggedRegion → Option (List ℕ) → List RegionEvent
events_by_text old None = []
events_by_text old (Some text) = events_by_copy old (copy_at text)

-- what happens by a line: by a command, or by the last of the lines that an `adopt` line announced
abbrev pub events_in : Mode → Machine → Outcome → List ℕ → List RegionEvent
events_in awaits_command machine outcome text = events_by machine (outcome_at outcome text) (command_at text)
events_in (announced left came) machine outcome text =
    if nat_le left 1 then events_by_text (logged_region machine) (unless_call outcome (with_line came text (10 ∷ []))) else []

-- what happens by lines, one after another
abbrev pub events_from : Machine → List (List ℕ) → List Outcome → List RegionEvent
events_from machine [] outcomes = []
events_from machine (text ∷ lines) outcomes =
    events_in machine.mode machine (first_outcome outcomes) text ++ events_from (turn machine (first_outcome outcomes) text).machine lines (later_outcomes outcomes)

-- What inputs do to a region, as its events.

-- what happens by a last line without newline: after an `adopt` line no text comes
abbrev pub events_of_last : Machine → Outcome → Result CommandValue Refusal → List RegionEvent
events_of_last machine line said = []
events_of_last machine outcome (Ok (adopt lines)) = events_by_text (logged_region machine) (unless_call outcome (Some []))
events_of_last machine outcome said = events_by machine outcome said

-- what happens by the end of an input, after this part of a line: a last line, or the text that was announced so far
abbrev pub events_of_end : Mode → Machine → Outcome → List ℕ → List RegionEvent
events_of_end awaits_command machine outcome [] = []
events_of_end awaits_command machine outcome (b ∷ part) = events_of_last machine (outcome_at outcome (b ∷ part)) (command_at (b ∷ part))
events_of_end (announced left came) machine outcome part = events_by_text (logged_region machine) (unless_call outcome (with_line came part []))

-- what happens by the end of an input, if it came
abbrev pub events_at_end : Machine → Option InputEnd → List RegionEvent
events_at_end machine None = []
events_at_end machine (Some end) = events_of_end machine.mode machine end.outcome end.part

-- what happens by an input, from a machine on
abbrev pub events_since : Machine → Input → List RegionEvent
events_since machine input =
    events_from machine input.lines input.outcomes ++ events_at_end (machine_after machine input.lines input.outcomes) input.end

-- what happens by an input, from a new region on
abbrev pub events_of_input : RegionValue → Input → List RegionEvent
events_of_input region input = events_since (new_machine region) input

-- The images that an input took, and what the laws of inputs ask for.

-- the images that an input took: those of accepted rounds, and those in the range and up to the marks of adopted copies
abbrev pub images_taken : BrokerRecord → RegionValue → Input → List Image
images_taken broker region input = all_taken broker (events_of_input region input)

-- each round that ran out of memory was retried: what it left in some tablets is among what was taken
abbrev pub AllRetried : BrokerRecord → RegionValue → Input → Type 0
AllRetried broker region input = AreIn (all_left (events_of_input region input)) (images_taken broker region input)

-- no tablet was lost and no copy adopted
abbrev pub NothingLost : RegionValue → Input → Type 0
NothingLost region input = LoseNothing (events_of_input region input)

-- the deliveries of rounds that were not refused, and the adopted copies, are honest about what brokers published
abbrev pub AllHonest : BrokerRecord → RegionValue → Input → Type 0
AllHonest broker region input = AreHonestEvents broker (events_of_input region input)

-- nothing was lost and no copy adopted, or all is honest and no tablet is recovering; and what ran out of memory was
-- retried
pub record Settled (broker : BrokerRecord) (region : RegionValue) (input : Input) : Type 0 where
  pub whole : NothingLost region input ⊎ (AllHonest broker region input × AllServe (region_after region input))
  pub retried : AllRetried broker region input

-- after the input, the next line is a command
abbrev pub Waits : RegionValue → Input → Type 0
Waits region input = (after_input (new_machine region) input).mode ≡ awaits_command

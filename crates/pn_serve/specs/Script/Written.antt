-- Lines and inputs that were answered: the replies, one after another, and the machine after them.
use Rattle.std.specs.Prelude.{ℕ, List, [], ◌∷◌, ◌==◌, if◌then◌else◌, ◌+◌, Bool, true, false, ◌++◌, All, Result, Ok, Option, None, Some}
use Rattle.pn_line.specs.Text.{last_line}
use Rattle.pn_region.specs.Regions.{RegionValue}
use Rattle.pn_protocol.specs.declared.refusal.Refusal.{Refusal}
use Rattle.pn_protocol.specs.Command.Lines.{command_at}
use Rattle.pn_protocol.specs.Command.Meaning.{CommandValue, adopt, lose, notices}
use Rattle.pn_serve.specs.Machine.Outcomes.{Outcome, done, Machine, Turn, new_machine}
use Rattle.pn_serve.specs.Machine.Turns.{turn, end_turn}

-- The parts of a script.

-- the byte before the first line, or before the part if there is no line
abbrev pub onto : ℕ → List (List ℕ) → List ℕ → List (List ℕ) × List ℕ
onto b [] part = ([], b ∷ part)
onto b (line ∷ lines) part = ((b ∷ line) ∷ lines, part)

-- the lines of a script that a newline ends, and the part of a line after the last newline
unfoldable pub parts_of : List ℕ → List (List ℕ) × List ℕ
parts_of [] = ([], [])
parts_of (b ∷ bytes) = if b == 10 then ([] ∷ (parts_of bytes).0, (parts_of bytes).1) else onto b (parts_of bytes).0 (parts_of bytes).1

-- The replies to lines, one after another, and the machine after them.

-- a line's outcome; lines beyond the list go as they say
abbrev pub first_outcome : List Outcome → Outcome
first_outcome [] = done
first_outcome (outcome ∷ outcomes) = outcome

abbrev pub later_outcomes : List Outcome → List Outcome
later_outcomes [] = []
later_outcomes (outcome ∷ outcomes) = outcomes

-- the replies to lines, one after another
abbrev pub replies_from : Machine → List (List ℕ) → List Outcome → List ℕ
replies_from machine [] outcomes = []
replies_from machine (text ∷ lines) outcomes =
    (turn machine (first_outcome outcomes) text).reply ++ replies_from (turn machine (first_outcome outcomes) text).machine lines (later_outcomes outcomes)

-- the machine after lines
abbrev pub machine_after : Machine → List (List ℕ) → List Outcome → Machine
machine_after machine [] outcomes = machine
machine_after machine (text ∷ lines) outcomes = machine_after (turn machine (first_outcome outcomes) text).machine lines (later_outcomes outcomes)

-- 1 for a refusal, else 0
abbrev pub one_if : Bool → ℕ
one_if true = 1
one_if false = 0

-- how many of the lines were refused
abbrev pub refusals_from : Machine → List (List ℕ) → List Outcome → ℕ
refusals_from machine [] outcomes = 0
refusals_from machine (text ∷ lines) outcomes =
    one_if (turn machine (first_outcome outcomes) text).refused + refusals_from (turn machine (first_outcome outcomes) text).machine lines (later_outcomes outcomes)

-- what the end of a script does, by an outcome of its own, after the part of a line that follows its last newline
abbrev pub end_of : RegionValue → List ℕ → List Outcome → Outcome → Turn
end_of region script outcomes last = end_turn (machine_after (new_machine region) (parts_of script).0 outcomes) last (parts_of script).1

-- the replies to a script
abbrev pub replies : RegionValue → List ℕ → List Outcome → Outcome → List ℕ
replies region script outcomes last = replies_from (new_machine region) (parts_of script).0 outcomes ++ (end_of region script outcomes last).reply

-- how many replies to a script are refusals
abbrev pub refusals : RegionValue → List ℕ → List Outcome → Outcome → ℕ
refusals region script outcomes last = refusals_from (new_machine region) (parts_of script).0 outcomes + one_if (end_of region script outcomes last).refused

-- Lines with their outcomes, and what lines ask for.

-- a line, and how it went
pub record ToldLine : Type 0 where
  pub text : List ℕ
  pub outcome : Outcome

-- lines, each with its outcome
abbrev pub told_lines : List (List ℕ) → List Outcome → List ToldLine
told_lines [] outcomes = []
told_lines (text ∷ lines) outcomes = record { text = text; outcome = first_outcome outcomes } ∷ told_lines lines (later_outcomes outcomes)

-- the machine after a line
abbrev pub after_line : Machine → ToldLine → Machine
after_line machine line = (turn machine line.outcome line.text).machine

-- the line asks for no notices
abbrev pub AsksNoNotices : Result CommandValue Refusal → Type 0
AsksNoNotices (Ok (notices since)) = ⊥
AsksNoNotices said = Unit {0}

-- what a line says is neither a loss nor an adoption
abbrev pub KeepsTablets : Result CommandValue Refusal → Type 0
KeepsTablets (Ok (adopt lines)) = ⊥
KeepsTablets (Ok (lose tablet)) = ⊥
KeepsTablets said = Unit {0}

-- no line says a loss or an adoption
abbrev pub NoLosses : List (List ℕ) → Type 0
NoLosses lines = All (λ text. KeepsTablets (command_at text)) lines

-- Inputs that were answered: lines, and the end after a last line without newline.

-- the end of an input: the part of a line after the last newline, and how it went
pub record InputEnd : Type 0 where
  pub part : List ℕ
  pub outcome : Outcome

-- what was answered of an input: lines, each with its outcome, and the end if it came
pub record Input : Type 0 where
  pub lines : List (List ℕ)
  pub outcomes : List Outcome
  pub end : Option InputEnd

-- the last line without newline, if there is one
abbrev pub line_at_end : Option InputEnd → List (List ℕ)
line_at_end None = []
line_at_end (Some end) = last_line end.part

-- all lines, a last one without newline too
abbrev pub all_lines : Input → List (List ℕ)
all_lines input = input.lines ++ line_at_end input.end

-- the machine after the end
abbrev pub machine_at_end : Machine → Option InputEnd → Machine
machine_at_end machine None = machine
machine_at_end machine (Some end) = (end_turn machine end.outcome end.part).machine

-- the machine after an input
abbrev pub after_input : Machine → Input → Machine
after_input machine input = machine_at_end (machine_after machine input.lines input.outcomes) input.end

-- a new region after an input
abbrev pub region_after : RegionValue → Input → RegionValue
region_after region input = (after_input (new_machine region) input).region

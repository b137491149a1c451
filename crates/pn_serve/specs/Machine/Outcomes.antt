-- Outcomes of lines, machines, and the lines that a machine waits for.
use Rattle.std.specs.Prelude.{ℕ, Bool, true, false, List, [], Option, ◌≡◌, Some, None, Vec, option_map}
use Rattle.std.specs.declared.alloc.Global.{Global}
use Rattle.pn_json.specs.Tokens.{line_of}
use Rattle.pn_region.specs.Log.{LoggedRegion}
use Rattle.pn_region.specs.Regions.{RegionValue}
use Rattle.pn_region.specs.declared.notices.Entry.{Entry}
use Rattle.pn_protocol.specs.declared.refusal.Refusal.{Refusal}
use Rattle.pn_protocol.specs.Reply.Short.{refusal_data}
use Rattle.pn_protocol.specs.declared.reply.Reply.{Reply}
use Rattle.pn_protocol.specs.declared.reply.Reply.TheVariants.{Silent}
use Rattle.pn_serve.specs.declared.machine.adoption.AnnouncedText.{AnnouncedText}
use Rattle.pn_serve.specs.declared.machine.CommandStep.{CommandStep}
use Rattle.pn_serve.specs.declared.machine.CommandStep.TheVariants.{Obeyed, Announces}

-- Outcomes of lines, and machines.

-- how a line went: done; out of memory while it was read (`line`) or run (`call`); or a round out of memory after the
-- flagged tablets took their part
pub data Outcome : Type 0 where
  done : Outcome
  line : Outcome
  call : Outcome
  round : List Bool → Outcome

-- what the next line is: a command, or announced text of a copy, with the lines still to come and the text so far
-- (none once memory ran out)
pub data Mode : Type 0 where
  awaits_command : Mode
  announced : ℕ → Option (List ℕ) → Mode

-- what the next line is, the region, and the log of its changes
pub record Machine : Type 0 where
  pub mode : Mode
  pub region : RegionValue
  pub log : List Entry

-- what a line did: the machine after it, its reply, and whether that is a refusal
pub record Turn : Type 0 where
  pub machine : Machine
  pub reply : List ℕ
  pub refused : Bool

-- a machine over a region with its log, which waits for a command
abbrev pub machine_over : LoggedRegion → Machine
machine_over logged_region = record { mode = awaits_command; region = logged_region.state; log = logged_region.log }

-- a machine over a region with an empty log, which waits for a command
abbrev pub new_machine : RegionValue → Machine
new_machine region = record { mode = awaits_command; region = region; log = [] }

-- the region with its log
abbrev pub logged_region : Machine → LoggedRegion
logged_region machine = record { state = machine.region; log = machine.log }

-- the line was refused, and nothing changed
abbrev pub refusal_turn : Machine → Refusal → Turn
refusal_turn machine refusal = record { machine = machine; reply = line_of (refusal_data refusal); refused = true }

-- there is no reply
abbrev pub silent_turn : Machine → Turn
silent_turn machine = record { machine = machine; reply = []; refused = false }

-- the line was answered, and nothing changed
abbrev pub reply_turn : Machine → List ℕ → Turn
reply_turn machine reply = record { machine = machine; reply = reply; refused = false }

-- The lines that a machine waits for, as its mode.

-- the bytes of a text, if there is one
abbrev pub bytes_of : Option (Vec ℕ Global) → Option (List ℕ)
bytes_of text = option_map (λ bytes. bytes.items) text

-- the mode: a command is next, or announced lines
abbrev pub mode_of : Option AnnouncedText → Mode
mode_of None = awaits_command
mode_of (Some lines) = announced lines.left (bytes_of lines.text)

-- a machine that waits for these lines
abbrev pub with_mode : Option AnnouncedText → LoggedRegion → Machine
with_mode lines logged = record { mode = mode_of lines; region = logged.state; log = logged.log }

-- the reply of a first step, or the lines that it announces
abbrev pub IsAnswer : CommandStep → Reply → Option AnnouncedText → Type 0
IsAnswer (Obeyed said) reply lines = (reply ≡ said) × (lines ≡ None)
IsAnswer (Announces count) reply lines = (reply ≡ Silent) × (mode_of lines ≡ announced count (Some []))

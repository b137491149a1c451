-- Settings of a region, how far a script is read, and where the run of one ends.
use Rattle.std.specs.Prelude.{ℕ, ◌≡◌, List, [], length, take, nat_lt, ◌⊎◌, ◌≢◌, Option, Some, IfSome, Result, Ok, Err}
use Rattle.std.specs.List.{take_while}
use Rattle.std.specs.Io.KnownBytes.{Appends, Keeps}
use Rattle.pn_line.specs.Text.{lines_of, PartRead}
use Rattle.pn_line.specs.declared.line_buffer.TheConstants.{ENDLESS}
use Rattle.pn_line.specs.Sent.{AppendsPrefix}
use Rattle.pn_tablet.specs.Layouts.{Bounds}
use Rattle.pn_region.specs.Regions.{RegionValue, new_region}
use Rattle.pn_serve.specs.declared.script.TheConstants.{MAX_LINES}
use Rattle.pn_serve.specs.declared.script.Counts.{Counts}
use Rattle.pn_serve.specs.declared.script.RunFault.{RunFault}
use Rattle.pn_serve.specs.declared.script.RunFault.TheVariants.{Read, Write, TooManyTurns, Memory}
use Rattle.pn_serve.specs.Machine.Outcomes.{Outcome, new_machine}
use Rattle.pn_serve.specs.Script.Written.{replies, replies_from, refusals}

-- Settings of a region.

-- the layout, and the workers of a round
pub record SettingsValue : Type 0 where
  pub layout : Bounds
  pub workers : ℕ

-- How far a script is read.

-- the lines that may be answered: at most a million, up to the first of a billion bytes
abbrev pub lines_within : List ℕ → List (List ℕ)
lines_within script = take_while (λ line. nat_lt (length line) ENDLESS) (take MAX_LINES (lines_of script))

-- reading stops after this part of a line: a million lines were read, or the part has a billion bytes
abbrev pub IsAtBound : List (List ℕ) → List ℕ → Type 0
IsAtBound lines part = ((length lines ≡ MAX_LINES) × (part ≡ [])) ⊎ (length part ≡ ENDLESS)

-- What a run begins with, and where it ends: what it read and wrote, and what is left of its script.

-- the start of a run: its region, the bytes left in its source, and those in its writer
pub record RunStart : Type 0 where
  pub region : RegionValue
  pub left : Option (List ℕ)
  pub written : Option (List ℕ)

-- what a run with these settings begins with
abbrev pub run_start : SettingsValue → Option (List ℕ) → Option (List ℕ) → RunStart
run_start settings left written = record { region = new_region settings.layout; left = left; written = written }

-- the whole script was read; by one list of outcomes and one for the end, its replies were written, and its lines and
-- refusals were counted
pub record Ended (begun : RunStart) (script : List ℕ) (left written : Option (List ℕ)) (counts : Counts) : Type 0 where
  pub outcomes : List Outcome
  pub last : Outcome
  pub wrote : Appends begun.written written (replies begun.region script outcomes last)
  pub lines_are : counts.lines ≡ length (lines_of script)
  pub refused_are : counts.refused ≡ refusals begun.region script outcomes last
  pub within : lines_within script ≡ lines_of script
  pub at_end : left ≡ Some []

-- these lines and a part of the next were read; the replies to the lines were written
pub record Broken (begun : RunStart) (script : List ℕ) (left written : Option (List ℕ)) : Type 0 where
  pub lines : List (List ℕ)
  pub part : List ℕ
  pub read : PartRead script left lines part
  pub outcomes : List Outcome
  pub wrote : Appends begun.written written (replies_from (new_machine begun.region) lines outcomes)

-- some lines and a part of the next were read; a prefix of the script's replies was written
pub record Cut (begun : RunStart) (script : List ℕ) (left written : Option (List ℕ)) : Type 0 where
  pub lines : List (List ℕ)
  pub part : List ℕ
  pub read : PartRead script left lines part
  pub outcomes : List Outcome
  pub last : Outcome
  pub prefix : AppendsPrefix begun.written written (replies begun.region script outcomes last)

-- the lines that may be answered and a part of the next were read, and there are more; the replies to the lines were
-- written
pub record Exceeded (begun : RunStart) (script : List ℕ) (left written : Option (List ℕ)) : Type 0 where
  pub part : List ℕ
  pub read : PartRead script left (lines_within script) part
  pub stopped : IsAtBound (lines_within script) part
  pub outcomes : List Outcome
  pub wrote : Appends begun.written written (replies_from (new_machine begun.region) (lines_within script) outcomes)
  pub more : lines_within script ≢ lines_of script

-- where a run ends, by what it answered; out of memory, nothing was read or written
abbrev pub Ends : RunStart → Option (List ℕ) → Option (List ℕ) → Result Counts RunFault → Type 0
Ends begun left written (Ok counts) = IfSome begun.left (λ script. Ended begun script left written counts)
Ends begun left written (Err Read) = IfSome begun.left (λ script. Broken begun script left written)
Ends begun left written (Err Write) = IfSome begun.left (λ script. Cut begun script left written)
Ends begun left written (Err TooManyTurns) = IfSome begun.left (λ script. Exceeded begun script left written)
Ends begun left written (Err Memory) = Keeps begun.left left × Keeps begun.written written

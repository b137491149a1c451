-- What the laws of scripts speak of: new regions that took an input, repeated rounds, and pages one after another.
use Rattle.std.specs.Prelude.{◌≡◌, ◌⊎◌, ℕ, List, ◌≢◌, true, false, [], ◌∷◌, Option, None, Some, Ok, if◌then◌else◌}
use Rattle.std.specs.FinMap.{find}
use Rattle.pn_json.specs.Tokens.{line_of}
use Rattle.pn_record.specs.declared.records.Image.{Image}
use Rattle.pn_record.specs.Cells.{Entries, SameImages}
use Rattle.pn_record.specs.Sets.{bytes_cmp, CellValue}
use Rattle.pn_tablet.specs.Layouts.{Bounds, IsLayout}
use Rattle.pn_stream.specs.Brokers.{BrokerRecord, DeliveryValue}
use Rattle.pn_scan.specs.Pages.{PageValue}
use Rattle.pn_scan.specs.Queries.{QueryValue}
use Rattle.pn_scan.specs.Shown.{is_shown}
use Rattle.pn_region.specs.Reads.{HoldsStill, ServesAt, page_in}
use Rattle.pn_region.specs.Regions.{RegionValue, new_region, all_cells}
use Rattle.pn_region.specs.Events.{AreRounds}
use Rattle.pn_protocol.specs.declared.refusal.Refusal.TheVariants.{Memory}
use Rattle.pn_protocol.specs.Reply.Short.{refusal_data}
use Rattle.pn_protocol.specs.Command.Lines.{command_at}
use Rattle.pn_protocol.specs.Command.Meaning.{deliver, scan}
use Rattle.pn_protocol.specs.Reply.Records.{scan_data}
use Rattle.pn_serve.specs.Machine.Outcomes.{Outcome, Machine, new_machine, awaits_command, Turn}
use Rattle.pn_serve.specs.Machine.Turns.{turn, end_turn}
use Rattle.pn_serve.specs.Script.Events.{images_taken, Settled, Waits, events_in}
use Rattle.pn_serve.specs.Script.Written.{Input, after_input, InputEnd, ToldLine, told_lines, after_line}

-- New regions that took an input, and what two of them have in common.

-- a new region of a layout that took an input
pub record Told : Type 0 where
  pub layout : Bounds
  pub lawful : IsLayout layout
  pub input : Input

-- the machine of a new region after its input
abbrev pub machine_of : Told → Machine
machine_of told = after_input (new_machine (new_region told.layout)) told.input

-- the records of all tablets of the region together
abbrev pub records_of : Told → Entries
records_of told = all_cells (machine_of told).region

-- the images that a new region took, in rounds and by copies
abbrev pub images_of : BrokerRecord → Told → List Image
images_of broker told = images_taken broker (new_region told.layout) told.input

-- both are settled, and they took the same images
pub record TookTheSame (broker : BrokerRecord) (one other : Told) : Type 0 where
  pub settled : Settled broker (new_region one.layout) one.input
  pub settled_too : Settled broker (new_region other.layout) other.input
  pub same : SameImages (images_of broker one) (images_of broker other)

-- the region waits for a command
abbrev pub AwaitsCommand : Told → Type 0
AwaitsCommand told = Waits (new_region told.layout) told.input

-- the replies of the region to one more line: with a newline, and without at the end of the input
abbrev pub reply_of : Told → Outcome → List ℕ → List ℕ
reply_of told outcome text = (turn (machine_of told) outcome text).reply

abbrev pub last_reply : Told → Outcome → List ℕ → List ℕ
last_reply told outcome text = (end_turn (machine_of told) outcome text).reply

-- the replies are equal, or memory ran out
abbrev pub AreAlike : List ℕ → List ℕ → Type 0
AreAlike reply other = ((reply ≡ line_of (refusal_data Memory)) ⊎ (other ≡ line_of (refusal_data Memory))) ⊎ (reply ≡ other)

-- if the tablet of the key serves in both, the second holds what the first has at the key, at the same or a newer
-- version
abbrev pub IsNoOlder : RegionValue → RegionValue → List ℕ → Type 0
IsNoOlder old new key = ServesAt old key → ServesAt new key → HoldsStill (find bytes_cmp key (all_cells old)) (find bytes_cmp key (all_cells new))

-- Rounds that were refused and repeated, and inputs without them.

-- a command is awaited, and the line delivers this
pub record Delivers (machine : Machine) (text : List ℕ) (deliveries : List DeliveryValue) : Type 0 where
  pub waits : machine.mode ≡ awaits_command
  pub says : command_at text ≡ Ok (deliver deliveries)

-- the line delivers this, and is refused: memory runs out, or the round leaves a gap or has too many streams
pub record IsRefused (machine : Machine) (line : ToldLine) (deliveries : List DeliveryValue) : Type 0 where
  pub delivers : Delivers machine line.text deliveries
  pub refused : (turn machine line.outcome line.text).refused ≡ true

-- the line delivers this, and is accepted
pub record IsAccepted (machine : Machine) (line : ToldLine) (deliveries : List DeliveryValue) : Type 0 where
  pub delivers : Delivers machine line.text deliveries
  pub accepted : (turn machine line.outcome line.text).refused ≡ false

-- the last line, which has no newline, delivers this and is accepted
pub record IsAcceptedLast (machine : Machine) (end : InputEnd) (deliveries : List DeliveryValue) : Type 0 where
  pub there : end.part ≢ []
  pub delivers : Delivers machine end.part deliveries
  pub accepted : (end_turn machine end.outcome end.part).refused ≡ false

abbrev pub IsAcceptedAtEnd : Machine → Option InputEnd → List DeliveryValue → Type 0
IsAcceptedAtEnd machine None deliveries = ⊥
IsAcceptedAtEnd machine (Some end) deliveries = IsAcceptedLast machine end deliveries

-- one of the lines, or the last one without newline, delivers this and is accepted; no loss, adoption or change of layout comes before it
abbrev pub IsRepeated : Machine → List ToldLine → Option InputEnd → List DeliveryValue → Type 0
IsRepeated machine [] end deliveries = IsAcceptedAtEnd machine end deliveries
IsRepeated machine (line ∷ lines) end deliveries =
    IsAccepted machine line deliveries
    ⊎ (AreRounds (events_in machine.mode machine line.outcome line.text) × IsRepeated (after_line machine line) lines end deliveries)

-- the line is a round that is refused, and later repeated
pub record IsMadeUp (machine : Machine) (line : ToldLine) (later : List ToldLine) (end : Option InputEnd) : Type 0 where
  pub deliveries : List DeliveryValue
  pub refused : IsRefused machine line deliveries
  pub repeated : IsRepeated (after_line machine line) later end deliveries

-- the second list is the first without some refused rounds that are later repeated
abbrev pub AreWithout : Machine → List ToldLine → Option InputEnd → List ToldLine → Type 0
AreWithout machine [] end others = others ≡ []
AreWithout machine (line ∷ lines) end others =
    (IsMadeUp machine line lines end × AreWithout (after_line machine line) lines end others)
    ⊎ ((rest : List ToldLine) × (others ≡ line ∷ rest) × AreWithout (after_line machine line) lines end rest)

-- both regions have one layout; the other took the same lines, without some refused rounds that are later repeated
pub record IsToldWithout (one other : Told) : Type 0 where
  pub layout : one.layout ≡ other.layout
  pub lines : AreWithout (new_machine (new_region one.layout)) (told_lines one.input.lines one.input.outcomes) one.input.end (told_lines other.input.lines other.input.outcomes)
  pub end : other.input.end ≡ one.input.end

-- Pages that lines of a script are answered with, one after another.

-- the line asks for a query's page, and its reply is the JSON of this page, which the region has
pub record ShowsPage (machine : Machine) (text : List ℕ) (turned : Turn) (query : QueryValue) (page : PageValue) : Type 0 where
  pub waits : machine.mode ≡ awaits_command
  pub says : command_at text ≡ Ok (scan query)
  pub found : page_in machine.region query ≡ Ok page
  pub replied : turned.reply ≡ line_of (scan_data page)

-- a line shows the page that a query asks for, of a region with a property
pub record ShowsNext (Holds : RegionValue → Type 0) (machine : Machine) (text : List ℕ) (turned : Turn) (asked : Option QueryValue) (page : PageValue) : Type 0 where
  pub query : QueryValue
  pub asks : asked ≡ Some query
  pub holds : Holds machine.region
  pub shows : ShowsPage machine text turned query page

-- the last line without newline shows the last page, or there is no further page
abbrev pub EndsPages : (RegionValue → Type 0) → Machine → Option InputEnd → Option QueryValue → List PageValue → Type 0
EndsPages Holds machine end asked [] = Unit {0}
EndsPages Holds machine (Some end) asked (page ∷ []) = ShowsNext Holds machine end.part (end_turn machine end.outcome end.part) asked page
EndsPages Holds machine end asked pages = ⊥

-- some of the lines show these pages in turn; the first has this query, each later one the continuation before it, and
-- the region has the property when it answers
abbrev pub ShowPages : (RegionValue → Type 0) → Machine → List ToldLine → Option InputEnd → Option QueryValue → List PageValue → Type 0
ShowPages Holds machine [] end asked pages = EndsPages Holds machine end asked pages
ShowPages Holds machine (line ∷ lines) end asked pages =
    ShowPages Holds (after_line machine line) lines end asked pages
    ⊎ ((page : PageValue) × (rest : List PageValue) × (pages ≡ page ∷ rest)
    × ShowsNext Holds machine line.text (turn machine line.outcome line.text) asked page × ShowPages Holds (after_line machine line) lines end page.1 rest)

-- the cell of a key, if there is one and the query shows it
abbrev pub shown_cell : QueryValue → List ℕ → Option CellValue → Option CellValue
shown_cell query key None = None
shown_cell query key (Some cell) = if is_shown query (key, cell) then Some cell else None

-- The JSON of commands: which JSON values are commands, and which lines.
use Rattle.std.specs.Prelude.{ℕ, List, Option, Some, None, map, codes, ◌≡◌, ◌⊎◌, [], Ok, IsTrue}
use Rattle.serde_json.specs.Data.{Data, number, string, array, object, unsigned, Members, no_members, member, null}
use Rattle.serde_json.specs.View.{items_of}
use Rattle.pn_join.specs.Marks.{Positions}
use Rattle.pn_record.specs.Writing.{image_data, version_data}
use Rattle.pn_record.specs.Marks.{marks_data}
use Rattle.pn_record.specs.Reading.{IsLine}
use Rattle.pn_record.specs.Sets.{Stamp}
use Rattle.pn_tablet.specs.Layouts.{Bounds}
use Rattle.pn_stream.specs.Brokers.{DeliveryValue}
use Rattle.pn_scan.specs.QueryReading.{shape_in}
use Rattle.pn_protocol.specs.Command.Meaning.{is_command, CommandValue, adopt, copy, deliver, get, lose, marks, notices, read, relayout, scan, tablets}

-- The JSON of commands.

-- a delivery: the position of its first image, its images, and its stream
abbrev pub delivery_data : DeliveryValue → Data
delivery_data delivery =
    object (member (codes "first") (number (unsigned delivery.first))
    (member (codes "images") (array (items_of (map image_data delivery.images)))
    (member (codes "stream") (string delivery.stream) no_members)))

-- a command's object: its word, and the members after `do`
abbrev pub command_data : List ℕ → Members → Data
command_data word others = object (member (codes "do") (string word) others)

-- an `adopt` command: how many lines it announces
abbrev pub adopt_command : ℕ → Data
adopt_command lines = command_data (codes "adopt") (member (codes "lines") (number (unsigned lines)) no_members)

-- a tablet's number, as the last member
abbrev pub tablet_member : ℕ → Members
tablet_member tablet = member (codes "tablet") (number (unsigned tablet)) no_members

-- a `copy` command, with the value of its need, if that is there
abbrev pub copy_command : Option Data → ℕ → Data
copy_command None tablet = command_data (codes "copy") (tablet_member tablet)
copy_command (Some need) tablet = command_data (codes "copy") (member (codes "need") need (tablet_member tablet))

-- a `deliver` command, whose batches come before `do`
abbrev pub deliver_command : List DeliveryValue → Data
deliver_command deliveries =
    object (member (codes "batches") (array (items_of (map delivery_data deliveries)))
    (member (codes "do") (string (codes "deliver")) no_members))

-- a `get` command
abbrev pub get_command : List (List ℕ) → Data
get_command keys = command_data (codes "get") (member (codes "keys") (array (items_of (map string keys))) no_members)

-- a `lose` command
abbrev pub lose_command : ℕ → Data
lose_command tablet = command_data (codes "lose") (tablet_member tablet)

-- a `notices` command: after which number
abbrev pub notices_command : ℕ → Data
notices_command since = command_data (codes "notices") (member (codes "since") (number (unsigned since)) no_members)

-- a `read` command, with the members after its key
abbrev pub read_command : List ℕ → Members → Data
read_command key others = command_data (codes "read") (member (codes "key") (string key) others)

-- a `relayout` command, whose bounds come before `do`
abbrev pub relayout_command : Bounds → Data
relayout_command bounds =
    object (member (codes "bounds") (array (items_of (map string bounds)))
    (member (codes "do") (string (codes "relayout")) no_members))

-- a `scan` command, with the value of its query
abbrev pub scan_command : Data → Data
scan_command query = command_data (codes "scan") (member (codes "query") query no_members)

-- Which JSON values are commands, and which lines.

-- what a copy has to reach; nothing may also be missing or null
abbrev pub IsNeed : Option Data → Positions → Type 0
IsNeed None need = need ≡ []
IsNeed (Some d) need = ((d ≡ null) × (need ≡ [])) ⊎ (d ≡ marks_data need)

-- the members after the key: the required version; without one, none or null
abbrev pub IsRequired : Members → Option Stamp → Type 0
IsRequired others None = (others ≡ no_members) ⊎ (others ≡ member (codes "version") null no_members)
IsRequired others (Some version) = others ≡ member (codes "version") (version_data version) no_members

-- the value says the command; no limit is looked at
abbrev pub Says : Data → CommandValue → Type 0
Says d (adopt lines) = d ≡ adopt_command lines
Says d (copy need tablet) = (said : Option Data) × IsNeed said need × (d ≡ copy_command said tablet)
Says d (deliver deliveries) = d ≡ deliver_command deliveries
Says d (get keys) = d ≡ get_command keys
Says d (lose tablet) = d ≡ lose_command tablet
Says d marks = d ≡ command_data (codes "marks") no_members
Says d (notices since) = d ≡ notices_command since
Says d (read key version) = (others : Members) × IsRequired others version × (d ≡ read_command key others)
Says d (relayout bounds) = d ≡ relayout_command bounds
Says d (scan query) = (asked : Data) × (shape_in asked ≡ Ok query) × (d ≡ scan_command asked)
Says d tablets = d ≡ command_data (codes "tablets") no_members

-- the value is the JSON of the command, which keeps the limits
pub record IsCommand (d : Data) (command : CommandValue) : Type 0 where
  pub value : Says d command
  pub limits : IsTrue (is_command command)

-- the line is not too long, and `serde_json` reads it as the JSON of the command
abbrev pub IsCommandLine : List ℕ → CommandValue → Type 0
IsCommandLine line command = IsLine IsCommand line command

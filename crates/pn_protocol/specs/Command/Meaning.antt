-- What lines ask for, and the limits of it.
use Rattle.std.specs.Prelude.{ℕ, List, Option, Bool, true, ◌&&◌, nat_le, length, Some, None}
use Rattle.std.specs.List.{list_all}
use Rattle.pn_join.specs.Marks.{Positions}
use Rattle.pn_join.specs.Naming.{is_name}
use Rattle.pn_record.specs.Sets.{Stamp}
use Rattle.pn_record.specs.Reading.{is_image}
use Rattle.pn_record.specs.Limits.{is_key, is_version}
use Rattle.pn_record.specs.Marks.{is_mark}
use Rattle.pn_tablet.specs.Layouts.{Bounds}
use Rattle.pn_tablet.specs.declared.layout.TheConstants.{MAX_BOUNDS}
use Rattle.pn_stream.specs.Brokers.{DeliveryValue, are_positions}
use Rattle.pn_scan.specs.Queries.{QueryValue, is_query}
use Rattle.pn_region.specs.declared.notices.TheConstants.{LAST_NUMBER}
use Rattle.pn_protocol.specs.declared.command.Command.{Command}
use Rattle.pn_protocol.specs.declared.command.Command.TheVariants.{Adopt, Copy, Deliver, Get, Lose, Marks, Notices, Read, Relayout, Scan, Tablets}
use Rattle.pn_protocol.specs.declared.command.ranges.TheConstants.{MAX_ANNOUNCED, MAX_BATCHES, MAX_KEYS}

-- What lines ask for.

-- a command, with its parts: lines to adopt; need and tablet; deliveries; keys; tablet; the number after which
-- notices are wanted; key and required version; bounds; query
pub data CommandValue : Type 0 where
  adopt : ℕ → CommandValue
  copy : Positions → ℕ → CommandValue
  deliver : List DeliveryValue → CommandValue
  get : List (List ℕ) → CommandValue
  lose : ℕ → CommandValue
  marks : CommandValue
  notices : ℕ → CommandValue
  read : List ℕ → Option Stamp → CommandValue
  relayout : Bounds → CommandValue
  scan : QueryValue → CommandValue
  tablets : CommandValue

-- what a command of the program asks for
abbrev pub command_value : Command → CommandValue
command_value (Adopt lines) = adopt lines
command_value (Copy need tablet) = copy need tablet
command_value (Deliver deliveries) = deliver deliveries.items
command_value (Get keys) = get keys.items
command_value (Lose tablet) = lose tablet
command_value Marks = marks
command_value (Notices since) = notices since
command_value (Read key version) = read key version
command_value (Relayout bounds) = relayout bounds.items
command_value (Scan query) = scan query
command_value Tablets = tablets

-- The limits of what commands say.

-- the stream has a name, and the positions and the images keep their limits
abbrev pub is_delivery : DeliveryValue → Bool
is_delivery delivery =
    is_name delivery.stream && are_positions delivery.first (length delivery.images) && list_all is_image delivery.images

-- a command announces at least one line, and not too many
abbrev pub may_announce : ℕ → Bool
may_announce lines = nat_le 1 lines && nat_le lines MAX_ANNOUNCED

-- notices are asked for after a number that an entry may have
abbrev pub may_be_asked : ℕ → Bool
may_be_asked since = nat_le since LAST_NUMBER

-- at least one, and at most this many
abbrev pub are_few : {A : Type 0} → ℕ → List A → Bool
are_few most list = nat_le 1 (length list) && nat_le (length list) most

-- the version that is required, if one is, keeps its limits
abbrev pub may_be_required : Option Stamp → Bool
may_be_required None = true
may_be_required (Some version) = is_version version

-- the parts of a command keep their limits; whether bounds rise is asked where they are used
abbrev pub is_command : CommandValue → Bool
is_command (adopt lines) = may_announce lines
is_command (copy need tablet) = list_all is_mark need
is_command (deliver deliveries) = are_few MAX_BATCHES deliveries && list_all is_delivery deliveries
is_command (get keys) = are_few MAX_KEYS keys && list_all is_key keys
is_command (notices since) = may_be_asked since
is_command (read key version) = is_key key && may_be_required version
is_command (relayout bounds) = nat_le (length bounds) MAX_BOUNDS && list_all is_key bounds
is_command (scan query) = is_query query
is_command command = true

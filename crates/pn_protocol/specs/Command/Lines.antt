-- The command that a JSON object is, by its word, and the command that a line is, or its first fault.
use Rattle.std.specs.Prelude.{ℕ, codes, Option, option_and_then, unwrap_or, Result, Ok, ◌≡◌, ◌⊎◌, Bool, true, false, if◌then◌else◌, Some, Err, IsOk, nat_lt, List, length}
use Rattle.std.specs.Option.{ok_or}
use Rattle.serde_json.specs.Data.{Data, Items, no_items, Members, string}
use Rattle.serde_json.specs.Find.{get_member, as_array, as_object, get}
use Rattle.pn_json.specs.Answers.{◌>>=◌, fault_as}
use Rattle.pn_json.specs.Members.{whole_number, member_as, each_in}
use Rattle.pn_record.specs.Limits.{max_line_bytes}
use Rattle.pn_record.specs.Reading.{value_at}
use Rattle.pn_record.specs.declared.fault.ImageFault.{ImageFault}
use Rattle.pn_record.specs.declared.fault.ImageFault.TheVariants as image
use Rattle.pn_stream.specs.Brokers.{DeliveryValue}
use Rattle.pn_protocol.specs.Command.Meaning.{CommandValue, deliver, marks, tablets}
use Rattle.pn_protocol.specs.Command.Checks.{batch_fits, batches_fit, named_alone, batch_shape}
use Rattle.pn_protocol.specs.Command.Words.{members_of, users_of, word_in}
use Rattle.pn_protocol.specs.declared.command.word.CommandWord.TheVariants.{Deliver, Adopt, Copy, Get, Lose, Marks, Notices, Read, Relayout, Scan, Tablets}
use Rattle.pn_protocol.specs.declared.refusal.MemberName.TheVariants.{Batches, Whole, Do}
use Rattle.pn_protocol.specs.declared.refusal.Refusal.{Refusal}
use Rattle.pn_protocol.specs.declared.refusal.Refusal.TheVariants.{BadShape, ReadOnly, TooLong, NotJson, OutOfRange, Memory}
use Rattle.pn_protocol.specs.Command.Tablets.{adopt_in, copy_in, lose_in, relayout_in}
use Rattle.pn_protocol.specs.declared.command.parse.AllowedCommands.{AllowedCommands}
use Rattle.pn_protocol.specs.declared.command.parse.AllowedCommands.TheVariants.{All, Controls, Lookups}
use Rattle.pn_protocol.specs.declared.command.word.CommandUsers.{CommandUsers}
use Rattle.pn_protocol.specs.declared.command.word.CommandWord.{CommandWord}
use Rattle.pn_protocol.specs.Command.Lookups.{get_in, notices_in, read_in, scan_in}
use Rattle.pn_protocol.specs.declared.command.word.CommandUsers.TheVariants as users
use Rattle.pn_protocol.specs.declared.refusal.MemberName.TheVariants as member_name

-- The command that delivers batches, and the parts of a batch.

-- the batches of a `deliver` command
unfoldable pub deliver_in : Members → Result CommandValue Refusal
deliver_in members = do
  items ← member_as as_array (BadShape Batches) (get_member (codes "batches") members)
  batches ← each_in batch_shape items
  named ← named_alone (members_of Deliver) members
  fit ← batches_fit batches
  Ok (deliver batches)

-- the `deliver` command that the value is
unfoldable pub deliver_at : Data → Result CommandValue Refusal
deliver_at d = do
  members ← ok_or (as_object d) (BadShape Whole)
  deliver_in members

-- the batch that the value is, in its ranges
abbrev pub batch_in : Data → Result DeliveryValue Refusal
batch_in d = do
  batch ← batch_shape d
  fits ← batch_fits batch
  Ok batch

-- the whole number, or 0
abbrev pub number_at : Option Data → ℕ
number_at d = unwrap_or (option_and_then whole_number d) 0

-- the items of the array, or none
abbrev pub items_at : Option Data → Items
items_at d = unwrap_or (option_and_then as_array d) no_items

-- The command that a JSON object is, by its word.

-- a command whose one member is its word
unfoldable pub alone_in : CommandWord → CommandValue → Members → Result CommandValue Refusal
alone_in word command members = do
  named ← named_alone (members_of word) members
  Ok command

-- the command of a word
abbrev pub command_as : CommandWord → Members → Result CommandValue Refusal
command_as Adopt members = adopt_in members
command_as Copy members = copy_in members
command_as Deliver members = deliver_in members
command_as Get members = get_in members
command_as Lose members = lose_in members
command_as Marks members = alone_in Marks marks members
command_as Notices members = notices_in members
command_as Read members = read_in members
command_as Relayout members = relayout_in members
command_as Scan members = scan_in members
command_as Tablets members = alone_in Tablets tablets members

-- a command that these may say is allowed: scripts say all, control sessions what scripts do not have alone, sessions what is theirs
abbrev pub may_say : AllowedCommands → CommandUsers → Bool
may_say All who = true
may_say Controls users.Scripts = false
may_say Controls users.Controls = true
may_say Controls users.Sessions = true
may_say Lookups users.Scripts = false
may_say Lookups users.Controls = false
may_say Lookups users.Sessions = true

-- the word is allowed, whatever the other members are
abbrev pub allowed_word : AllowedCommands → CommandWord → Result (Unit {0}) Refusal
allowed_word allowed word = if may_say allowed (users_of word) then Ok tt else Err ReadOnly

-- the command that a value says, if it is allowed
unfoldable pub allowed_in : AllowedCommands → Data → Result CommandValue Refusal
allowed_in allowed d = do
  members ← ok_or (as_object d) (BadShape Whole)
  word ← member_as word_in (BadShape Do) (get_member (codes "do") members)
  may ← allowed_word allowed word
  command_as word members

-- the command that a value says
abbrev pub command_in : Data → Result CommandValue Refusal
command_in d = allowed_in All d

-- memory may run out: the value is a command, or says `deliver`, `get` or `relayout`, whose batches, keys or bounds are
-- collected before their ranges are checked
abbrev pub TakesMemory : AllowedCommands → Data → Type 0
TakesMemory allowed d =
    IsOk (allowed_in allowed d) ⊎ (get (codes "do") d ≡ Some (string (codes "deliver"))) ⊎ (get (codes "do") d ≡ Some (string (codes "get"))) ⊎ (get (codes "do") d ≡ Some (string (codes "relayout")))

-- The command that a line is, or its first fault: its length, its reading, all shapes, and then the ranges.

-- the line has too many bytes
abbrev pub is_too_long : List ℕ → Bool
is_too_long line = nat_lt max_line_bytes (length line)

-- the refusal of a line for what is at fault in an image
abbrev pub refusal_of : ImageFault → Refusal
refusal_of image.TooLong = TooLong
refusal_of image.NotJson = NotJson
refusal_of image.Memory = Memory
refusal_of (image.BadShape at) = BadShape (member_name.Image at)
refusal_of (image.OutOfRange at) = OutOfRange (member_name.Image at)

-- the command that a line says, if it is allowed
unfoldable pub allowed_at : AllowedCommands → List ℕ → Result CommandValue Refusal
allowed_at allowed line = fault_as refusal_of (value_at line) >>= allowed_in allowed

-- the command that a line of a script says
abbrev pub command_at : List ℕ → Result CommandValue Refusal
command_at line = allowed_at All line

-- the lookup that a line of a session says
abbrev pub lookup_at : List ℕ → Result CommandValue Refusal
lookup_at line = allowed_at Lookups line

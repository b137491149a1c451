-- The checks of a line's parts, one after another: first their shapes, then their ranges.
use Rattle.std.specs.Prelude.{ℕ, List, [], ◌∷◌, codes, Option, Some, None, option_map, Result, Ok, Bool, nat_le, if◌then◌else◌, length, Err, ◌≡◌}
use Rattle.std.specs.Option.{ok_or}
use Rattle.serde_json.specs.Data.{Data, null, Members}
use Rattle.serde_json.specs.Find.{get_member, as_str, as_array, as_object}
use Rattle.pn_join.specs.Naming.{is_name}
use Rattle.pn_json.specs.Answers.{◌>>=◌, fault_as}
use Rattle.pn_json.specs.Members.{whole_number, member_as, each_in, no_others, seen}
use Rattle.pn_record.specs.Grammar.{numbers_in, shape_in, ranges_in}
use Rattle.pn_record.specs.declared.records.Image.{Image}
use Rattle.pn_record.specs.Sets.{Stamp}
use Rattle.pn_record.specs.Limits.{is_key, is_version}
use Rattle.pn_tablet.specs.declared.layout.TheConstants.{MAX_BOUNDS}
use Rattle.pn_stream.specs.Brokers.{DeliveryValue, are_positions}
use Rattle.pn_protocol.specs.declared.refusal.MemberName.{MemberName}
use Rattle.pn_protocol.specs.declared.refusal.MemberName.TheVariants.{Batches, First, Images, Stream, Version, Other, Bounds, Keys}
use Rattle.pn_protocol.specs.declared.refusal.Refusal.{Refusal}
use Rattle.pn_protocol.specs.declared.refusal.Refusal.TheVariants.{BadShape, OutOfRange}
use Rattle.pn_protocol.specs.Command.Meaning.{are_few}
use Rattle.pn_protocol.specs.declared.command.ranges.TheConstants.{MAX_BATCHES, MAX_KEYS}
use Rattle.pn_protocol.specs.declared.command.members.BatchParts.{BatchParts}
use Rattle.pn_protocol.specs.declared.refusal.MemberName.TheVariants as member_name

-- The shapes of a line's members, one after another.

-- the members have no other names than these
abbrev pub named_alone : List (List ℕ) → Members → Result (Unit {0}) Refusal
named_alone names members = no_others names (BadShape Other) members

-- an image of the right shape
abbrev pub image_shape : Data → Result Image Refusal
image_shape d = fault_as (λ member. BadShape (member_name.Image member)) (shape_in d)

-- a batch of the right shape
unfoldable pub batch_shape : Data → Result DeliveryValue Refusal
batch_shape d = do
  members ← ok_or (as_object d) (BadShape Batches)
  first ← member_as whole_number (BadShape First) (get_member (codes "first") members)
  items ← member_as as_array (BadShape Images) (get_member (codes "images") members)
  images ← each_in image_shape items
  stream ← member_as as_str (BadShape Stream) (get_member (codes "stream") members)
  named ← named_alone (codes "first" ∷ codes "images" ∷ codes "stream" ∷ []) members
  Ok (record { stream = stream; first = first; images = images })

-- a text among keys of this member
abbrev pub key_shape : MemberName → Data → Result (List ℕ) Refusal
key_shape member_name d = ok_or (as_str d) (BadShape member_name)

-- the number of a command whose members have these names
abbrev pub number_alone : List ℕ → List (List ℕ) → MemberName → Members → Result ℕ Refusal
number_alone name names member_name members = do
  value ← member_as whole_number (BadShape member_name) (get_member name members)
  named ← named_alone names members
  Ok value

-- the keys of a command whose members have these names
abbrev pub keys_alone : List ℕ → List (List ℕ) → MemberName → Members → Result (List (List ℕ)) Refusal
keys_alone name names member_name members = do
  items ← member_as as_array (BadShape member_name) (get_member name members)
  keys ← each_in (key_shape member_name) items
  named ← named_alone names members
  Ok keys

-- the version that a value requires, or none where it is null
abbrev pub required_in : Data → Option (Option Stamp)
required_in null = Some None
required_in d = option_map Some (numbers_in d)

-- the version that a member requires, or none where it is absent
abbrev pub version_shape : Option Data → Result (Option Stamp) Refusal
version_shape None = Ok None
version_shape (Some d) = ok_or (required_in d) (BadShape Version)

-- The ranges of a line's members, one after another.

-- the test passes, or the member is out of range
abbrev pub fits : MemberName → Bool → Result (Unit {0}) Refusal
fits name test = if test then Ok tt else Err (OutOfRange name)

-- each passes, or the first fault of one
abbrev pub each_fits : {A : Type 0} → (A → Result (Unit {0}) Refusal) → List A → Result (Unit {0}) Refusal
each_fits check [] = Ok tt
each_fits check (value ∷ values) = do
  passed ← check value
  each_fits check values

-- an image in its ranges
abbrev pub image_fits : Image → Result (Unit {0}) Refusal
image_fits image = fault_as (λ member. OutOfRange (member_name.Image member)) (ranges_in image)

-- a batch in its ranges
unfoldable pub batch_fits : DeliveryValue → Result (Unit {0}) Refusal
batch_fits batch = do
  first ← fits First (are_positions batch.first (length batch.images))
  images ← each_fits image_fits batch.images
  fits Stream (is_name batch.stream)

-- at least one batch and not too many, in their ranges
unfoldable pub batches_fit : List DeliveryValue → Result (Unit {0}) Refusal
batches_fit batches = do
  count ← fits Batches (are_few MAX_BATCHES batches)
  each_fits batch_fits batches

-- one of several keys
abbrev pub key_fits : MemberName → List ℕ → Result (Unit {0}) Refusal
key_fits member_name key = fits member_name (is_key key)

-- at least one key and not too many, in their ranges
unfoldable pub keys_fit : List (List ℕ) → Result (Unit {0}) Refusal
keys_fit keys = do
  count ← fits Keys (are_few MAX_KEYS keys)
  each_fits (key_fits Keys) keys

-- not too many bounds, in their ranges
unfoldable pub bounds_fit : List (List ℕ) → Result (Unit {0}) Refusal
bounds_fit bounds = do
  count ← fits Bounds (nat_le (length bounds) MAX_BOUNDS)
  each_fits (key_fits Bounds) bounds

-- the version that is required, if one is, in its ranges
abbrev pub fitting_version : Option Stamp → Result (Option Stamp) Refusal
fitting_version None = Ok None
fitting_version (Some version) = if is_version version then Ok (Some version) else Err (OutOfRange Version)

-- The members of a batch, as they are found.

-- the parts are what the members have at a batch's names
pub record ArePartsOf (ms : Members) (parts : BatchParts) : Type 0 where
  pub first : seen parts.first ≡ get_member (codes "first") ms
  pub images : seen parts.images ≡ get_member (codes "images") ms
  pub stream : seen parts.stream ≡ get_member (codes "stream") ms
  pub named : parts.named ≡ named_alone (codes "first" ∷ codes "images" ∷ codes "stream" ∷ []) ms

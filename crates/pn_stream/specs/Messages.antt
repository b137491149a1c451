-- The message of a JSON value: first the shapes of its members, then their ranges; and messages as JSON values and as lines.
use Rattle.std.specs.Prelude.{ℕ, not, if◌then◌else◌, List, [], ◌∷◌, codes, Result, Ok, Err, ◌≡◌, IsTrue}
use Rattle.std.specs.Option.{ok_or}
use Rattle.serde_json.specs.Data.{Data, number, object, unsigned, no_members, member}
use Rattle.serde_json.specs.Find.{get, as_object}
use Rattle.pn_join.specs.Marks.{is_position}
use Rattle.pn_json.specs.Answers.{◌>>=◌, fault_as}
use Rattle.pn_json.specs.Members.{whole_number, member_as, no_others}
use Rattle.pn_record.specs.Grammar.{shape_in as image_shape_in, ranges_in as image_ranges_in}
use Rattle.pn_record.specs.Reading.{value_at, IsLine, is_image}
use Rattle.pn_record.specs.declared.records.Image.{Image}
use Rattle.pn_record.specs.declared.fault.Member.{Member}
use Rattle.pn_record.specs.declared.fault.ImageFault.{ImageFault}
use Rattle.pn_record.specs.declared.fault.ImageFault.TheVariants.{BadShape, OutOfRange}
use Rattle.pn_record.specs.Writing.{image_data}
use Rattle.pn_record.specs.declared.fault.Member.TheVariants as member

-- The message of a JSON value: first the shapes of its members, then their ranges.

-- a message: its position in the stream, and its image
abbrev pub Message : Type 0
Message = ℕ × Image

-- the names of a message's members
abbrev pub message_members : List (List ℕ)
message_members = codes "at" ∷ codes "image" ∷ []

-- the message, or the first member of a wrong shape
unfoldable pub shape_in : Data → Result Message Member
shape_in d = do
  members ← ok_or (as_object d) member.Whole
  at ← member_as whole_number member.At (get (codes "at") d)
  value ← ok_or (get (codes "image") d) member.Image
  image ← image_shape_in value
  named ← no_others message_members member.Other members
  Ok (at, image)

-- the first member that breaks a limit
unfoldable pub ranges_in : Message → Result (Unit {0}) Member
ranges_in message = if not (is_position message.0) then Err member.At else image_ranges_in message.1

-- the message of a value, or its first fault; every shape comes before the ranges
unfoldable pub message_in : Data → Result Message ImageFault
message_in d = do
  message ← fault_as BadShape (shape_in d)
  fits ← fault_as OutOfRange (ranges_in message)
  Ok message

-- the message of a line
unfoldable pub message_at : List ℕ → Result Message ImageFault
message_at line = value_at line >>= message_in

-- Messages as JSON values and as lines.

-- the JSON of a message: the position and the image
abbrev pub message_data : Message → Data
message_data message =
    object (member (codes "at") (number (unsigned message.0)) (member (codes "image") (image_data message.1) no_members))

-- the value is the JSON of the message, whose position and image keep the limits
pub record IsMessage (d : Data) (message : Message) : Type 0 where
  pub value : d ≡ message_data message
  pub position : IsTrue (is_position message.0)
  pub limits : IsTrue (is_image message.1)

-- the line is that of the message
abbrev pub IsMessageLine : List ℕ → Message → Type 0
IsMessageLine line message = IsLine IsMessage line message

-- Why no region takes a line, which field or member is at fault, and what is told of it.
use Rattle.std.specs.Prelude.{ℕ, Bool, ◌||◌, if◌then◌else◌, List, codes, Option, None, Some, is_some, Result, Ok, Err, false, not, [], ◌∷◌, is_none, option_and_then, option_map}
use Rattle.std.specs.List.{list_any}
use Rattle.std.specs.Str.{bytes_eq}
use Rattle.serde_json.specs.Data.{Data, Members, no_members, member, null, number, object, string, unsigned}
use Rattle.serde_json.specs.Find.{get, as_object}
use Rattle.pn_json.specs.Tokens.{line_of}
use Rattle.pn_record.specs.Grammar.{image_in, image_members, value_in, word_of, word_of_fault}
use Rattle.pn_record.specs.Reading.{value_at}
use Rattle.pn_record.specs.declared.fault.ImageFault.{ImageFault}
use Rattle.pn_record.specs.Limits.{FieldValue, is_field}
use Rattle.pn_record.specs.declared.fault.ImageFault.TheVariants.{TooLong, NotJson, Memory, BadShape, OutOfRange}
use Rattle.pn_record.specs.declared.fault.Member.{Member}
use Rattle.pn_record.specs.declared.fault.Member.TheVariants.{Whole, Deleted, Fields, Key, Master, Version, At, Image, Other}
use Rattle.pn_stream.specs.Messages.{message_in, message_members}
use Rattle.pn_check.specs.declared.told.Flaw.{Flaw}
use Rattle.pn_check.specs.declared.told.Flaw.TheVariants.{Kind, Limit, OfNoImage, OfNoMessage}

-- Why no region takes a line.

-- a value with a position or an image is to be a message, and any other an image
abbrev pub is_message : Data → Bool
is_message d = is_some (get (codes "at") d) || is_some (get (codes "image") d)

-- the fault of what was read, if it has one
abbrev pub fault_in : {A : Type 0} → Result A ImageFault → Option ImageFault
fault_in (Ok value) = None
fault_in (Err fault) = Some fault

-- why no region takes a value, if that is so
abbrev pub value_fault : Data → Option ImageFault
value_fault d = if is_message d then fault_in (message_in d) else fault_in (image_in d)

-- the same of what a line was read as
abbrev pub read_fault : Result Data ImageFault → Option ImageFault
read_fault (Ok d) = value_fault d
read_fault (Err fault) = Some fault

-- why no region takes a line, if that is so
abbrev pub fault_at : List ℕ → Option ImageFault
fault_at line = read_fault (value_at line)

-- Which field is at fault, or which member an image or a message does not have.

-- a field of this name whose value, if it is one, keeps no limit
abbrev pub is_beyond : List ℕ → Option FieldValue → Bool
is_beyond name None = false
is_beyond name (Some value) = not (is_field (name, value))

-- whether a member has a flaw
abbrev pub is_flawed : Flaw → List ℕ → Data → Bool
is_flawed Kind name d = is_none (value_in d)
is_flawed Limit name d = is_beyond name (value_in d)
is_flawed OfNoImage name d = not (list_any (bytes_eq name) image_members)
is_flawed OfNoMessage name d = not (list_any (bytes_eq name) message_members)

-- the name of the first member with a flaw
abbrev pub first_flawed : Flaw → Members → Option (List ℕ)
first_flawed flaw no_members = None
first_flawed flaw (member name d ms) = if is_flawed flaw name d then Some name else first_flawed flaw ms

-- the image of a value that is to be a message, or the value
abbrev pub image_of : Data → Option Data
image_of d = if is_message d then get (codes "image") d else Some d

-- the name of the first field with a flaw
abbrev pub field_name : Flaw → Data → Option (List ℕ)
field_name flaw d = option_and_then (first_flawed flaw) (option_and_then as_object (option_and_then (get (codes "fields")) (image_of d)))

-- a name, or else another
abbrev pub or_else : Option (List ℕ) → Option (List ℕ) → Option (List ℕ)
or_else None other = other
or_else (Some name) other = Some name

-- the name of the first of these members that an image does not have, or else of a value's that a message does not have
abbrev pub other_of : Data → Members → Option (List ℕ)
other_of d members = or_else (first_flawed OfNoImage members) (option_and_then (first_flawed OfNoMessage) (as_object d))

-- the name of the first member that an image does not have, or else a message
abbrev pub other_name : Data → Option (List ℕ)
other_name d = option_and_then (other_of d) (option_and_then as_object (image_of d))

-- the name that is at fault where a member of a wrong shape is this
abbrev pub shape_name : Member → Data → Option (List ℕ)
shape_name Fields d = field_name Kind d
shape_name Other d = other_name d
shape_name Whole d = None
shape_name Deleted d = None
shape_name Key d = None
shape_name Master d = None
shape_name Version d = None
shape_name At d = None
shape_name Image d = None

-- the name that is at fault where a member beyond a limit is this
abbrev pub limit_name : Member → Data → Option (List ℕ)
limit_name Fields d = field_name Limit d
limit_name Other d = None
limit_name Whole d = None
limit_name Deleted d = None
limit_name Key d = None
limit_name Master d = None
limit_name Version d = None
limit_name At d = None
limit_name Image d = None

-- the name of the field at fault, or of the member that has no place, where one is to blame
abbrev pub name_in : ImageFault → Data → Option (List ℕ)
name_in TooLong d = None
name_in NotJson d = None
name_in Memory d = None
name_in (BadShape part) d = shape_name part d
name_in (OutOfRange part) d = limit_name part d

-- What is reported of a line that no region takes.

-- the member at fault, if one is
abbrev pub member_word : ImageFault → Option (List ℕ)
member_word TooLong = None
member_word NotJson = None
member_word Memory = None
member_word (BadShape part) = Some (word_of part)
member_word (OutOfRange part) = Some (word_of part)

-- a text, or null where there is none
abbrev pub text_or_null : Option (List ℕ) → Data
text_or_null None = null
text_or_null (Some text) = string text

-- the fault of the line of a number, and the name at fault
unfoldable pub told_data : ImageFault → ℕ → Option (List ℕ) → Data
told_data fault line name =
    object (member (codes "error") (string (word_of_fault fault))
    (member (codes "line") (number (unsigned line))
    (member (codes "member") (text_or_null (member_word fault))
    (member (codes "name") (text_or_null name) no_members))))

-- the name at fault in what a line was read as
abbrev pub name_read : ImageFault → Result Data ImageFault → Option (List ℕ)
name_read fault (Ok d) = name_in fault d
name_read fault (Err unread) = None

-- what is reported of the line of a number, by what it was read as
abbrev pub told_read : ℕ → Result Data ImageFault → Option (List ℕ)
told_read line read = option_map (λ fault. line_of (told_data fault line (name_read fault read))) (read_fault read)

-- what is reported of the line of a number, if no region takes it
abbrev pub told : ℕ → List ℕ → Option (List ℕ)
told line text = told_read line (value_at text)

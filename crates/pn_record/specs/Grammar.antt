-- The image that a JSON value spells: its members, their kinds and their limits.
use Rattle.std.specs.Prelude.{ℕ, List, codes, Bool, true, false, ◌&&◌, if◌then◌else◌, [], ◌∷◌, Option, Some, None, option_map, unwrap_or, is_some, Result, Ok, Err, not, option_and_then, ◌≡◌, String, string_bytes}
use Rattle.std.specs.Option.{option_or, ok_or}
use Rattle.std.specs.Borrow.{Bor}
use Rattle.std.specs.declared.alloc.Global.{Global}
use Rattle.serde_json.specs.Data.{Data, Members, no_members, member, Items, no_items, item}
use Rattle.serde_json.specs.Find.{as_bool, as_str, as_object, get, as_array, get_member}
use Rattle.serde_json.specs.declared.value.Value.{Value}
use Rattle.pn_join.specs.Naming.{is_name}
use Rattle.pn_json.specs.Members.{signed_number, whole_number, member_as, no_others, seen}
use Rattle.pn_json.specs.Answers.{◌>>=◌, fault_as}
use Rattle.pn_record.specs.declared.fault.ImageFault.{ImageFault}
use Rattle.pn_record.specs.declared.fault.ImageFault.TheVariants.{TooLong, NotJson, Memory, BadShape, OutOfRange}
use Rattle.pn_record.specs.declared.fault.Member.{Member}
use Rattle.pn_record.specs.declared.fault.Member.TheVariants.{Whole, Deleted, Fields, Key, Master, Version, At, Image as ImageMember, Other}
use Rattle.pn_record.specs.Limits.{fields_fit, FieldValue, number_value, text_value, Field, is_key, is_version}
use Rattle.pn_record.specs.declared.records.Image.{Image}
use Rattle.pn_record.specs.declared.as_json.moved.Parts.{Parts}

-- Which faults a value can have.

-- a fault of a value, not of its line
abbrev pub IsOfValue : ImageFault → Type 0
IsOfValue Memory = Unit {0}
IsOfValue (BadShape which) = Unit {0}
IsOfValue (OutOfRange which) = Unit {0}
IsOfValue TooLong = ⊥
IsOfValue NotJson = ⊥

-- The printed words of members and of faults.

-- the member's name in lower case
abbrev pub word_of : Member → List ℕ
word_of Whole = codes "whole"
word_of Deleted = codes "deleted"
word_of Fields = codes "fields"
word_of Key = codes "key"
word_of Master = codes "master"
word_of Version = codes "version"
word_of At = codes "at"
word_of ImageMember = codes "image"
word_of Other = codes "other"

-- the kind of the fault
abbrev pub word_of_fault : ImageFault → List ℕ
word_of_fault TooLong = codes "too-long"
word_of_fault NotJson = codes "not-json"
word_of_fault Memory = codes "memory"
word_of_fault (BadShape part) = codes "bad-shape"
word_of_fault (OutOfRange part) = codes "out-of-range"

-- The body that the members `deleted` and `fields` of an image are.

-- the text or the whole number of 64 bits with a sign that a value is
abbrev pub value_in : Data → Option FieldValue
value_in d = option_or (option_map text_value (as_str d)) (option_map number_value (signed_number d))

-- the value of a field, or the empty text
abbrev pub value_or_empty : Data → FieldValue
value_or_empty d = unwrap_or (value_in d) (text_value [])

-- each member is the value of a field
abbrev pub all_values : Members → Bool
all_values no_members = true
all_values (member name d ms) = is_some (value_in d) && all_values ms

-- the names and values of members that are all values of fields
abbrev pub fields_of : Members → List Field
fields_of no_members = []
fields_of (member name d ms) = (name, value_or_empty d) ∷ fields_of ms

-- whether `deleted` is present; it must be `true` then
abbrev pub deleted_in : Option Data → Result Bool Member
deleted_in None = Ok false
deleted_in (Some d) = if unwrap_or (as_bool d) false then Ok true else Err Deleted

-- the fields of an object whose members are all values of fields
abbrev pub object_fields : Option Members → Result (Option (List Field)) Member
object_fields None = Err Fields
object_fields (Some ms) = if all_values ms then Ok (Some (fields_of ms)) else Err Fields

-- the fields; a deletion has none, and no member `fields`
abbrev pub fields_in : Bool → Option Data → Result (Option (List Field)) Member
fields_in true None = Ok None
fields_in true (Some d) = Err Fields
fields_in false None = Err Fields
fields_in false (Some d) = object_fields (as_object d)

-- the fields fit, if there are any
abbrev pub body_fits : Option (List Field) → Bool
body_fits None = true
body_fits (Some fields) = fields_fit fields

-- The image that a JSON value spells: all its members must have the right kinds, and then keep the limits.

-- the two whole numbers of an array of two
abbrev pub two_numbers : Items → Option (ℕ × ℕ)
two_numbers no_items = None
two_numbers (item a no_items) = None
two_numbers (item a (item b no_items)) = option_and_then (λ m. option_map (λ n. (m, n)) (whole_number b)) (whole_number a)
two_numbers (item a (item b (item c ds))) = None

-- the version that an array of two whole numbers spells
abbrev pub numbers_in : Data → Option (ℕ × ℕ)
numbers_in d = option_and_then two_numbers (as_array d)

-- the names of an image's members
abbrev pub image_members : List (List ℕ)
image_members = codes "deleted" ∷ codes "fields" ∷ codes "key" ∷ codes "master" ∷ codes "version" ∷ []

-- the image that the value has the shape of, or the first member of another shape
unfoldable pub shape_in : Data → Result Image Member
shape_in d = do
  members ← ok_or (as_object d) Whole
  deleted ← deleted_in (get (codes "deleted") d)
  fields ← fields_in deleted (get (codes "fields") d)
  key ← member_as as_str Key (get (codes "key") d)
  master ← member_as as_str Master (get (codes "master") d)
  version ← member_as numbers_in Version (get (codes "version") d)
  named ← no_others image_members Other members
  Ok (record { key = key; version = version; content = (fields, master) })

-- the first member that breaks a limit
unfoldable pub ranges_in : Image → Result (Unit {0}) Member
ranges_in image =
    if not (body_fits image.content.0) then Err Fields else
    (if not (is_key image.key) then Err Key else
    (if not (is_name image.content.1) then Err Master else
    (if not (is_version image.version) then Err Version else Ok tt)))

-- the image that the value spells, or its first fault: shapes are checked before limits
unfoldable pub image_in : Data → Result Image ImageFault
image_in d = do
  image ← fault_as BadShape (shape_in d)
  fits ← fault_as OutOfRange (ranges_in image)
  Ok image

-- The parts of an image, as the members of a value.

-- the two numbers of a version, or zeros
abbrev pub numbers_at : Option Data → ℕ × ℕ
numbers_at d = unwrap_or (option_and_then numbers_in d) (0, 0)

-- the fields of the object
abbrev pub fields_at : Option Data → Option (List Field)
fields_at d = option_map fields_of (option_and_then as_object d)

-- The members of an image, as they are found.

-- the name and the value of a borrowed member
abbrev pub seen_member : Bor (String Global) × Bor Value → List ℕ × Value
seen_member m = (string_bytes m.0.now, m.1.now)

-- the parts are what the members have at an image's names
pub record ArePartsOf (ms : Members) (parts : Parts) : Type 0 where
  pub deleted : seen parts.deleted ≡ get_member (codes "deleted") ms
  pub fields : seen parts.fields ≡ get_member (codes "fields") ms
  pub key : seen parts.key ≡ get_member (codes "key") ms
  pub master : seen parts.master ≡ get_member (codes "master") ms
  pub version : seen parts.version ≡ get_member (codes "version") ms
  pub named : parts.named ≡ no_others image_members Other ms

-- The limits of versions, keys and fields, and which fields, bodies and contents keep them.
use Rattle.std.specs.Prelude.{ℕ, ℤ, pos, negsuc, ◌^◌, Bool, ◌&&◌, nat_le, nat_lt, List, length, Option, ◌+◌, true, sum_by, Some, None}
use Rattle.std.specs.List.{list_all}
use Rattle.std.specs.FinMap.{is_sorted}
use Rattle.std.specs.Ordering.{nat_cmp}
use Rattle.std.specs.Cmp.Lexicographic.{slice_cmp}
pub use Rattle.pn_line.specs.Line.{max_line_bytes}
use Rattle.pn_join.specs.Naming.{is_name}
use Rattle.pn_record.specs.declared.version.TheConstants.{MAX_VERSION_NUMBER, MAX_KEY_BYTES, MAX_FIELD_NAME_BYTES, MAX_TEXT_BYTES, NUMBER_BYTES, MAX_FIELDS, MAX_FIELD_BYTES}

-- The limits of versions, keys and fields.

-- the generation is at least 1, and neither number is above the greatest
abbrev pub is_version : ℕ × ℕ → Bool
is_version version = nat_le 1 version.0 && nat_le version.0 MAX_VERSION_NUMBER && nat_le version.1 MAX_VERSION_NUMBER

-- not empty, and not too long
abbrev pub is_key : List ℕ → Bool
is_key bytes = nat_le 1 (length bytes) && nat_le (length bytes) MAX_KEY_BYTES

-- what a field has: a whole number, or the bytes of a text
pub data FieldValue : Type 0 where
  number_value : ℤ → FieldValue
  text_value : List ℕ → FieldValue

-- a field: its name and its value
abbrev pub Field : Type 0
Field = List ℕ × FieldValue

-- a content: its fields, or none for a deletion, and its master
abbrev pub ContentValue : Type 0
ContentValue = Option (List Field) × List ℕ

-- the number fits 64 bits, its sign included
abbrev pub is_number : ℤ → Bool
is_number (pos n) = nat_lt n (2 ^ 63)
is_number (negsuc n) = nat_lt n (2 ^ 63)

-- a number of 64 bits, or a text that is not too long
abbrev pub is_value : FieldValue → Bool
is_value (number_value z) = is_number z
is_value (text_value text) = nat_le (length text) MAX_TEXT_BYTES

-- the name is not empty and not too long, and the value keeps its limits
abbrev pub is_field : Field → Bool
is_field field = nat_le 1 (length field.0) && nat_le (length field.0) MAX_FIELD_NAME_BYTES && is_value field.1

-- Which fields, bodies and contents keep the limits.

-- how many bytes a value counts
abbrev pub value_size : FieldValue → ℕ
value_size (number_value z) = NUMBER_BYTES
value_size (text_value text) = length text

-- how many bytes a field's name and value count together
abbrev pub field_size : Field → ℕ
field_size field = length field.0 + value_size field.1

-- not too many fields, and not too many bytes together
abbrev pub fields_fit : List Field → Bool
fields_fit fields = nat_le (length fields) MAX_FIELDS && list_all is_field fields && nat_le (sum_by field_size fields) MAX_FIELD_BYTES

-- the names strictly rise by their bytes
abbrev pub names_rise : List Field → Bool
names_rise fields = is_sorted (slice_cmp nat_cmp) fields

-- a deletion, or fields that fit and whose names rise
abbrev pub is_body : Option (List Field) → Bool
is_body None = true
is_body (Some fields) = fields_fit fields && names_rise fields

-- a body within the limits, and a master
abbrev pub is_content : ContentValue → Bool
is_content shown = is_body shown.0 && is_name shown.1

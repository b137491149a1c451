-- How contracts show bodies, fields, keys and contents: as they are, as numbers, as codes, and in either form of storage.
use Rattle.std.specs.Prelude.{List, map, Option, Some, None, String, string_bytes, ℕ, Bool, true, false, [], ◌∷◌, ◌≡◌, ℤ, ◌⊎◌}
use Rattle.std.proofs.Common.{inl, inr, refl}
use Rattle.std.specs.declared.alloc.Global.{Global}
use Rattle.std.specs.List.{list_any}
use Rattle.std.specs.Coded.{Coded, code_by, coded×, coded⊎, coded_list, coded_option, coded_ℕ, coded_ℤ}
use Rattle.pn_record.specs.declared.content.Value.{Value}
use Rattle.pn_record.specs.declared.content.Value.TheVariants.{Number, Text}
use Rattle.pn_record.specs.declared.value_ref.ValueRef.{ValueRef}
use Rattle.pn_record.specs.declared.content.Body.{Body}
use Rattle.pn_record.specs.declared.content.Body.TheVariants.{Fields, Deleted}
use Rattle.pn_record.specs.Limits.{FieldValue, number_value, text_value, Field, ContentValue}
use Rattle.pn_record.specs.declared.key.KeyText.{KeyText}
use Rattle.pn_record.specs.declared.key.KeyText.TheVariants.{Short, Long}
use Rattle.pn_record.specs.declared.held_contents.HeldContents.{HeldContents}
use Rattle.pn_record.specs.declared.held_contents.HeldContents.TheVariants.{One, Many}
use Rattle.pn_record.specs.declared.value_ref.ValueRef.TheVariants as ref

-- Bodies and fields as a contract shows them.

-- the number, or the bytes of the text
abbrev pub shown_value : Value → FieldValue
shown_value (Number number) = number_value number
shown_value (Text text) = text_value (string_bytes text)

-- the number, or the bytes of the borrowed text
abbrev pub shown_ref : ValueRef → FieldValue
shown_ref (ref.Number number) = number_value number
shown_ref (ref.Text text) = text_value text.now

-- a field's name and value
abbrev pub shown_field : String Global × Value → Field
shown_field field = (string_bytes field.0, shown_value field.1)

-- the fields, or none for a deletion
abbrev pub shown_body : Body → Option (List Field)
shown_body (Fields fields) = Some (map shown_field fields.items)
shown_body Deleted = None

-- The text of keys and the contents of cells, in either form of storage.

-- the bytes of a key's text
abbrev pub held_text : KeyText → List ℕ
held_text (Short text) = text
held_text (Long text) = string_bytes text

-- the key's text is held in place
abbrev pub is_in_place : KeyText → Bool
is_in_place (Short text) = true
is_in_place (Long text) = false

-- the contents of a cell, in the order of storage
abbrev pub held_contents : HeldContents → List ContentValue
held_contents (One content) = content ∷ []
held_contents (Many contents) = contents.items

-- Contents that hold numbers.

-- the value is a number
abbrev pub is_numeric : FieldValue → Bool
is_numeric (number_value z) = true
is_numeric (text_value text) = false

-- one of the fields is a number
abbrev pub have_number : List Field → Bool
have_number fields = list_any (λ field. is_numeric field.1) fields

-- a field of the body is a number
abbrev pub body_holds_number : Option (List Field) → Bool
body_holds_number None = false
body_holds_number (Some fields) = have_number fields

-- a field of the content is a number
abbrev pub holds_number : ContentValue → Bool
holds_number shown = body_holds_number shown.0

-- An encoding of contents that differs for different ones.

-- the number on the left, the text on the right
abbrev pub apart : FieldValue → ℤ ⊎ List ℕ
apart (number_value z) = inl z
apart (text_value text) = inr text

abbrev pub together : ℤ ⊎ List ℕ → FieldValue
together (inl z) = number_value z
together (inr text) = text_value text

pub together_again : (value : FieldValue) → together (apart value) ≡ value
together_again (number_value z) = refl
together_again (text_value text) = refl

abbrev pub value_code : Coded FieldValue
value_code = code_by (ℤ ⊎ List ℕ) (coded⊎ coded_ℤ (coded_list coded_ℕ)) apart together together_again

abbrev pub field_code : Coded Field
field_code = coded× (coded_list coded_ℕ) value_code

abbrev pub shown_code : Coded ContentValue
shown_code = coded× (coded_option (coded_list field_code)) (coded_list coded_ℕ)

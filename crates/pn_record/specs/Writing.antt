-- The JSON values of versions, contents and images, their texts and their tokens.
use Rattle.std.specs.Prelude.{ℕ, true, List, [], ◌∷◌, codes, Option, Some, None, ◌++◌}
use Rattle.serde_json.specs.Data.{Data, boolean, number, string, array, object, unsigned, no_items, item, Members, no_members, member}
use Rattle.serde_json.specs.Find.{of_integer}
use Rattle.serde_json.specs.Written.{compact_text}
use Rattle.json.specs.Token.{Token}
use Rattle.pn_json.specs.Tokens.{member_tokens}
use Rattle.pn_record.specs.Limits.{FieldValue, number_value, text_value, Field, ContentValue}
use Rattle.pn_record.specs.declared.records.Image.{Image}

-- The JSON values of versions, contents and images.

-- the two numbers
abbrev pub version_data : ℕ × ℕ → Data
version_data version = array (item (number (unsigned version.0)) (item (number (unsigned version.1)) no_items))

-- a number or a text
abbrev pub value_data : FieldValue → Data
value_data (number_value z) = number (of_integer z)
value_data (text_value text) = string text

-- a member for each field
abbrev pub fields_data : List Field → Members
fields_data [] = no_members
fields_data (field ∷ fields) = member field.0 (value_data field.1) (fields_data fields)

-- `fields`, or `deleted` for a deletion, before other members
abbrev pub body_data : Option (List Field) → Members → Members
body_data None rest = member (codes "deleted") (boolean true) rest
body_data (Some fields) rest = member (codes "fields") (object (fields_data fields)) rest

-- the body and the master
abbrev pub content_data : ContentValue → Data
content_data shown = object (body_data shown.0 (member (codes "master") (string shown.1) no_members))

-- the body, the key, the master and the version
abbrev pub image_data : Image → Data
image_data image =
    object (body_data image.content.0
    (member (codes "key") (string image.key)
    (member (codes "master") (string image.content.1)
    (member (codes "version") (version_data image.version) no_members))))

-- The texts of bodies.

-- the member `fields`, or `deleted` for a deletion
abbrev pub body_text : Option (List Field) → List ℕ
body_text None = codes "\"deleted\":true"
body_text (Some fields) = codes "\"fields\":" ++ compact_text (object (fields_data fields))

-- The tokens of fields, bodies and marks, each as a member of an object.

-- a field
abbrev pub field_tokens : Field → List Token
field_tokens field = member_tokens field.0 (value_data field.1)

-- the member `fields`, or `deleted` for a deletion
abbrev pub body_tokens : Option (List Field) → List Token
body_tokens None = member_tokens (codes "deleted") (boolean true)
body_tokens (Some fields) = member_tokens (codes "fields") (object (fields_data fields))

-- a mark
abbrev pub mark_tokens : List ℕ × ℕ → List Token
mark_tokens mark = member_tokens mark.0 (number (unsigned mark.1))

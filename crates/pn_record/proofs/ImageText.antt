-- The text of an image's JSON: it is flat, short and a line of the image, and it is added part by part.
use Rattle.std.proofs.Common.{◌≡◌, ℕ, suc, ℤ, pos, negsuc, ◌+◌, ◌*◌, ◌^◌, ◌<◌, ◌≤◌, List, [], ◌∷◌, ◌++◌, length, codes, Bool, true, false, ◌&&◌, cond, Option, Some, None, decimal, leb, ltb, refl, arith, length-append, IsUtf8, sym, subst, map, drop, get_or, ap, ◌∙◌, append_assoc}
use Rattle.std.proofs.lemmas.Bool.{and_parts, leb-true, ltb-true}
use Rattle.std.proofs.lemmas.List.Sums.{sum_by-cons}
use Rattle.std.proofs.lemmas.Fmt.{length-decimal-le}
use Rattle.std.specs.List.{sum_by, list_all}
use Rattle.std.proofs.lemmas.Str.{is_utf8-from_IsUtf8}
use Rattle.std.specs.Fmt.{signed_decimal}
use Rattle.std.proofs.lemmas.List.{drop_more, drop_all}
use Rattle.json.specs.Print.{escape_byte, escape_letter, escape, quoted}
use Rattle.serde_json.specs.Data.{string, object, Members, no_members, member, depth, members_depth, Data, number}
use Rattle.serde_json.specs.Find.{of_integer}
use Rattle.serde_json.specs.Written.{number_text, has_float, members_have_float, compact_text, members_text, comma_if}
use Rattle.serde_json.specs.Read.{read}
use Rattle.serde_json.proofs.OnLiterals.{serde_json_on_literals}
use Rattle.pn_join.specs.Naming.{is_name, is_name_byte}
use Rattle.pn_record.specs.Limits.{value_size, field_size, is_body, is_content, fields_fit, names_rise, ContentValue, FieldValue, number_value, text_value, Field, is_number, is_value, is_field, is_key, is_version}
use Rattle.pn_record.specs.Writing.{value_data, version_data, fields_data, body_data, content_data, image_data, body_text}
use Rattle.pn_record.specs.Reading.{is_image, IsImageLine, reading}
use Rattle.pn_record.specs.declared.records.Image.{Image}
use Rattle.pn_record.proofs.ShapeParts.{field_value}

-- The text of an image's JSON: it has no float, it is flat, and it is short.

value_has_no_float : (value : FieldValue) → has_float (value_data value) ≡ false
value_has_no_float (number_value (pos n)) = refl
value_has_no_float (number_value (negsuc n)) = refl
value_has_no_float (text_value text) = refl

fields_have_no_float : (fields : List Field) → members_have_float (fields_data fields) ≡ false
fields_have_no_float [] = refl
fields_have_no_float (field ∷ fields) = rw (value_has_no_float field.1) (fields_have_no_float fields)

body_has_no_float : (f : Option (List Field)) (rest : Members) → members_have_float rest ≡ false → members_have_float (body_data f rest) ≡ false
body_has_no_float None rest none = none
body_has_no_float (Some fields) rest none = rw (fields_have_no_float fields) none

pub has_float-image_data : (image : Image) → has_float (image_data image) ≡ false
has_float-image_data image = body_has_no_float image.content.0 _ refl

value_depth : (value : FieldValue) → depth (value_data value) ≡ 0
value_depth (number_value z) = refl
value_depth (text_value text) = refl

fields_depth : (fields : List Field) → members_depth (fields_data fields) ≤ 0
fields_depth [] = omega arith
fields_depth (field ∷ fields) = omega (arith, value_depth field.1, fields_depth fields)

body_depth : (f : Option (List Field)) (rest : Members) → members_depth rest ≤ 1 → members_depth (body_data f rest) ≤ 1
body_depth None rest flat = omega arith
body_depth (Some fields) rest flat = omega (arith, fields_depth fields)

pub depth-image_data : (image : Image) → depth (image_data image) ≤ 127
depth-image_data image = omega (arith, body_depth image.content.0 (member (codes "key") (string image.key) (member (codes "master") (string image.content.1) (member (codes "version") (version_data image.version) no_members))) (omega arith))

either_short : (b : Bool) (xs ys : List ℕ) (n : ℕ) → length xs ≤ n → length ys ≤ n → length (cond b xs ys) ≤ n
either_short true xs ys n one two = one
either_short false xs ys n one two = two

length-escape_byte : (x : ℕ) → length (escape_byte x) ≤ 6
unfolding escape_byte
length-escape_byte x =
    either_short _ (92 ∷ escape_letter x ∷ []) _ 6 (omega arith) (either_short (ltb x 32) _ (x ∷ []) 6 (omega arith) (omega arith))

length-escape : (s : List ℕ) → length (escape s) ≤ 6 * length s
length-escape [] = omega arith
length-escape (x ∷ s) = omega (arith, length-append (escape_byte x) (escape s), length-escape_byte x, length-escape s)

pub length-quoted : (s : List ℕ) → length (quoted s) ≤ 6 * length s + 2
length-quoted s = omega (arith, length-append (escape s) (34 ∷ []), length-escape s)

pub length-comma_if : (later : Bool) → length (comma_if later) ≤ 1
length-comma_if true = omega arith
length-comma_if false = omega arith

-- a member, before other text
length_member : (later : Bool) (name text rest : List ℕ) → length (comma_if later ++ (quoted name ++ 58 ∷ (text ++ rest))) ≤ 6 * length name + length text + 4 + length rest
length_member later name text rest =
    omega (arith, length-append (comma_if later) (quoted name ++ 58 ∷ (text ++ rest)), length-append (quoted name) (58 ∷ (text ++ rest)), length-append text rest, length-comma_if later, length-quoted name)

digits : (n : ℕ) → n ≤ 2 ^ 63 → length (decimal n) ≤ 19
digits n small = length-decimal-le 19 n (omega arith) (omega arith) (omega arith)

-- a number of 64 bits has at most the 20 characters that it counts
length_whole : (z : ℤ) → is_number z ≡ true → length (number_text (of_integer z)) ≤ 20
length_whole (pos n) is = omega (arith, digits n (omega (arith, ltb-true n (2 ^ 63) is)))
length_whole (negsuc n) is = omega (arith, digits (suc n) (omega (arith, ltb-true n (2 ^ 63) is)))

length_value : (value : FieldValue) → is_value value ≡ true → length (compact_text (value_data value)) ≤ 6 * value_size value + 2
length_value (number_value z) is = omega (arith, length_whole z is)
length_value (text_value text) is = length-quoted text

length_fields : (later : Bool) (fields : List Field) → list_all is_field fields ≡ true → length (members_text later (fields_data fields)) ≤ 6 * sum_by field_size fields + 6 * length fields + 1
length_fields true [] fit = omega arith
length_fields false [] fit = omega arith
length_fields later (field ∷ fields) fit =
    let parts = and_parts (is_field field) (list_all is_field fields) fit in
    let text = compact_text (value_data field.1) in
    omega (arith, length_member later field.0 text (members_text true (fields_data fields)), length_value field.1 (field_value field parts.0), length_fields true fields parts.1, sum_by-cons field_size field fields)

-- a member whose value is an array of two, at the end of an object
length_pair : (name a b : List ℕ) → length (44 ∷ (quoted name ++ 58 ∷ ((91 ∷ (a ++ 44 ∷ (b ++ 93 ∷ []))) ++ 125 ∷ []))) ≤ 6 * length name + 8 + length a + length b
length_pair name a b =
    let inner = a ++ 44 ∷ (b ++ 93 ∷ []) in
    omega (arith, length-append (quoted name) (58 ∷ ((91 ∷ inner) ++ 125 ∷ [])), length-append inner (125 ∷ []), length-append a (44 ∷ (b ++ 93 ∷ [])), length-append b (93 ∷ []), length-quoted name)

length_number : (n : ℕ) → n ≤ 10 ^ 15 → length (decimal n) ≤ 16
length_number n small = length-decimal-le 16 n (omega arith) (omega arith) (omega arith)

length_version : (v : ℕ × ℕ) → is_version v ≡ true → length (members_text true (member (codes "version") (version_data v) no_members)) ≤ 82
length_version v is =
    let parts = and_parts _ (leb v.1 (10 ^ 15)) is in
    let first = and_parts (leb 1 v.0) (leb v.0 (10 ^ 15)) parts.0 in
    omega (arith, length_pair (codes "version") (decimal v.0) (decimal v.1), length_number v.0 (leb-true _ _ first.1), length_number v.1 (leb-true _ _ parts.1))

rest_of : Image → Members
rest_of image = member (codes "key") (string image.key) (member (codes "master") (string image.content.1) (member (codes "version") (version_data image.version) no_members))

length_rest : (image : Image) → is_key image.key ≡ true → is_name image.content.1 ≡ true → is_version image.version ≡ true → length (members_text true (rest_of image)) ≤ 1900
unfolding rest_of
length_rest image key master version =
    let last = members_text true (member (codes "version") (version_data image.version) no_members) in
    let middle = members_text true (member (codes "master") (string image.content.1) (member (codes "version") (version_data image.version) no_members)) in
    let long_key = and_parts (leb 1 (length image.key)) (leb (length image.key) 256) key in
    let long_name = and_parts (leb 1 (length image.content.1) && leb (length image.content.1) 32) (list_all is_name_byte image.content.1) master in
    let long_master = and_parts (leb 1 (length image.content.1)) (leb (length image.content.1) 32) long_name.0 in
    omega (arith, length_member true (codes "key") (quoted image.key) middle, length_member true (codes "master") (quoted image.content.1) last, length-quoted image.key, length-quoted image.content.1, length_version image.version version, leb-true _ _ long_key.1, leb-true _ _ long_master.1)

length_body : (f : Option (List Field)) (rest : Members) → is_body f ≡ true → length (members_text true rest) ≤ 1900 → length (compact_text (object (body_data f rest))) < 52000
length_body None rest is short =
    let after = members_text true rest in
    omega (arith, length-append (quoted (codes "deleted")) (58 ∷ (116 ∷ 114 ∷ 117 ∷ 101 ∷ after)), length-quoted (codes "deleted"))
length_body (Some fields) rest is short =
    let after = members_text true rest in
    let inside = members_text false (fields_data fields) in
    let fits = and_parts (fields_fit fields) (names_rise fields) is in
    let together = and_parts (leb (length fields) 64 && list_all is_field fields) (leb (sum_by field_size fields) 8192) fits.0 in
    let few = and_parts (leb (length fields) 64) (list_all is_field fields) together.0 in
    omega (arith, length-append (quoted (codes "fields")) (58 ∷ ((123 ∷ inside) ++ after)), length-append inside after, length-quoted (codes "fields"), length_fields false fields few.1, leb-true _ _ few.0, leb-true _ _ together.1)

-- the text of an image's JSON is short
pub length-image_data : (image : Image) → is_image image ≡ true → length (compact_text (image_data image)) < 52000
unfolding rest_of
length-image_data image is =
    let parts = and_parts (is_key image.key && is_version image.version) (is_content image.content) is in
    let one = and_parts (is_key image.key) (is_version image.version) parts.0 in
    let two = and_parts (is_body image.content.0) (is_name image.content.1) parts.1 in
    length_body image.content.0 (rest_of image) two.0 (length_rest image one.0 two.1 one.1)

-- the text of a version is short
pub length-version_data : (v : ℕ × ℕ) → is_version v ≡ true → length (compact_text (version_data v)) ≤ 64
length-version_data v is =
    let parts = and_parts _ (leb v.1 (10 ^ 15)) is in
    let first = and_parts (leb 1 v.0) (leb v.0 (10 ^ 15)) parts.0 in
    omega (arith, length-append (decimal v.0) (44 ∷ (decimal v.1 ++ 93 ∷ [])), length-append (decimal v.1) (93 ∷ []), length_number v.0 (leb-true _ _ first.1), length_number v.1 (leb-true _ _ parts.1))

-- so is that of a content
pub length-content_data : (content : ContentValue) → is_content content ≡ true → length (compact_text (content_data content)) ≤ 52000
length-content_data content is =
    let two = and_parts (is_body content.0) (is_name content.1) is in
    let long_name = and_parts (leb 1 (length content.1) && leb (length content.1) 32) (list_all is_name_byte content.1) two.1 in
    let long_master = and_parts (leb 1 (length content.1)) (leb (length content.1) 32) long_name.0 in
    let rest = member (codes "master") (string content.1) no_members in
    let short : length (members_text true rest) ≤ 1900 = omega (arith, length_member true (codes "master") (quoted content.1) (125 ∷ []), length-quoted content.1, leb-true _ _ long_master.1) in
    omega (arith, length_body content.0 rest two.0 short)

-- The text that is written for an image is a line of it.

pub short_text : (text : List ℕ) (image : Image) → is_image image ≡ true → text ≡ compact_text (image_data image) → length text < 52000
short_text text image limits is = subst (λ (t : List ℕ). length t < 52000) (sym is) (length-image_data image limits)

reading-read : (text : List ℕ) (d : Data) → IsUtf8 text → read text ≡ Some d → reading text ≡ Some d
unfolding reading
reading-read text d utf8 is = rw (is_utf8-from_IsUtf8 text utf8) is

pub written_line : (text : List ℕ) (image : Image) → is_image image ≡ true → IsUtf8 text → text ≡ compact_text (image_data image) → read text ≡ Some (image_data image) → IsImageLine text image
written_line text image limits utf8 is again =
    let short = short_text text image limits is in
    record { short = omega arith; value = image_data image; read = reading-read text _ utf8 again; spelled = record { value = refl; limits = limits } }

-- The texts of contents and images, as they are added part by part.

-- a body, before other members
body_then : (body : Option (List Field)) (rest : Members) → 123 ∷ (body_text body ++ members_text true rest) ≡ compact_text (object (body_data body rest))
unfolding serde_json_on_literals
body_then None rest = refl
body_then (Some fields) rest = refl

pub content_text : (content : ContentValue) → codes "{" ++ (body_text content.0 ++ (codes ",\"master\":" ++ (quoted content.1 ++ codes "}"))) ≡ compact_text (content_data content)
unfolding serde_json_on_literals
content_text content = body_then content.0 (member (codes "master") (string content.1) no_members)

pub image_text : (image : Image)
    → codes "{" ++ (body_text image.content.0 ++ (codes ",\"key\":" ++ (quoted image.key ++ (codes ",\"master\":" ++ (quoted image.content.1 ++ (codes ",\"version\":" ++ (compact_text (version_data image.version) ++ codes "}")))))))
    ≡ compact_text (image_data image)
unfolding serde_json_on_literals
image_text image = body_then image.content.0 (member (codes "key") (string image.key) (member (codes "master") (string image.content.1) (member (codes "version") (version_data image.version) no_members)))

pub integer_text : (z : ℤ) → signed_decimal z ≡ compact_text (number (of_integer z))
integer_text (pos n) = refl
integer_text (negsuc n) = refl

-- one field more
pub next_field : {X : Type 0} (shown : X → Field) (later : Bool) (fields : List X) (i : ℕ) (field : X) → field ≡ get_or fields i field → i < length fields
    → members_text later (fields_data (map shown (drop i fields)))
    ≡ (comma_if later ++ (quoted (shown field).0 ++ 58 ∷ compact_text (value_data (shown field).1))) ++ members_text true (fields_data (map shown (drop (i + 1) fields)))
next_field {X} shown later fields i field here within =
    let name = (shown field).0 in
    let value = compact_text (value_data (shown field).1) in
    let rest = members_text true (fields_data (map shown (drop (i + 1) fields))) in
    ap (λ (list : List X). members_text later (fields_data (map shown list))) (drop_more fields i field within ∙ ap (λ (x : X). x ∷ drop (i + 1) fields) (sym here))
    ∙ sym (append_assoc (comma_if later) (quoted name ++ 58 ∷ value) rest ∙ ap (λ (text : List ℕ). comma_if later ++ text) (append_assoc (quoted name) (58 ∷ value) rest))

pub no_field : {X : Type 0} (shown : X → Field) (later : Bool) (fields : List X) (i : ℕ) → length fields ≤ i → 125 ∷ [] ≡ members_text later (fields_data (map shown (drop i fields)))
no_field {X} shown later fields i over = sym (ap (λ (list : List X). members_text later (fields_data (map shown list))) (drop_all i fields over))

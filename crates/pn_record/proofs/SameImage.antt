-- A value that has the shape of an image, and keeps the limits, is the JSON of that image.
use Rattle.std.proofs.Common.{◌≡◌, ℕ, List, true, ◌&&◌, Option, Some, None, Ok, refl, [], ◌∷◌, length, codes, false, leb, String, Global, string_cmp, bytes_eq, sym, ap, ◌∙◌}
use Rattle.std.proofs.lemmas.Bool.{and_parts, and_from}
use Rattle.std.specs.List.{list_all, list_any, sum_by}
use Rattle.std.specs.List.Sorted.{IsStrictlySortedBy}
use Rattle.std.specs.Map.{keys_of}
use Rattle.serde_json.specs.Data.{Data, string, object, Members, no_members, member}
use Rattle.serde_json.specs.Find.{get_member, as_object}
use Rattle.serde_json.specs.View.{members_view}
use Rattle.serde_json.specs.declared.value.Value.{Value}
use Rattle.pn_join.specs.Naming.{is_name}
use Rattle.pn_json.proofs.LookUps.{passed, object_from_as_object, Rise, Rise-map, get_member-member, get_member-unnamed, same_members, or_elsewhere}
use Rattle.pn_json.specs.Members.{only_named}
use Rattle.pn_record.specs.Limits.{is_body, is_content, fields_fit, names_rise, field_size, Field, is_key, is_version, is_field}
use Rattle.pn_record.specs.Grammar.{body_fits, all_values, fields_of, ranges_in, image_members, shape_in, image_in}
use Rattle.pn_record.specs.Reading.{body_rises, is_image, IsImage}
use Rattle.pn_record.specs.declared.records.Image.{Image}
use Rattle.pn_record.specs.Writing.{version_data, fields_data, body_data, image_data}
use Rattle.pn_record.proofs.ShapeParts.{Holds, holds, at_deleted, at_fields, value_in-value_data, field_value}

-- The members of an image keep the limits exactly where no range is broken.

body_parts : (f : Option (List Field)) → is_body f ≡ true → (body_fits f ≡ true) × (body_rises f ≡ true)
body_parts None is = (refl, refl)
body_parts (Some fields) is = and_parts (fields_fit fields) (names_rise fields) is

body_from : (f : Option (List Field)) → body_fits f ≡ true → body_rises f ≡ true → is_body f ≡ true
body_from None fits rise = refl
body_from (Some fields) fits rise = and_from (fields_fit fields) (names_rise fields) fits rise

-- a body that fits and whose names rise, and a master, are a content
pub content_from : (f : Option (List Field)) (master : List ℕ) → body_fits f ≡ true → body_rises f ≡ true → is_name master ≡ true → is_content (f, master) ≡ true
content_from f master fits rise named = and_from (is_body f) (is_name master) (body_from f fits rise) named

-- an image breaks no range
pub in_ranges : (image : Image) → is_image image ≡ true → ranges_in image ≡ Ok tt
unfolding ranges_in
in_ranges image is =
    let parts = and_parts (is_key image.key && is_version image.version) (is_content image.content) is in
    let one = and_parts (is_key image.key) (is_version image.version) parts.0 in
    let two = and_parts (is_body image.content.0) (is_name image.content.1) parts.1 in
    let fits = (body_parts image.content.0 two.0).0 in
    rw (fits, one.0, two.1, one.1) refl

-- what breaks no range is an image, if its names rise
pub image_from_ranges : (image : Image) → ranges_in image ≡ Ok tt → body_rises image.content.0 ≡ true → is_image image ≡ true
unfolding ranges_in
image_from_ranges image is rise =
    let body = passed (body_fits image.content.0) _ _ tt is in
    let key = passed (is_key image.key) _ _ tt body.1 in
    let master = passed (is_name image.content.1) _ _ tt key.1 in
    let version = passed (is_version image.version) _ _ tt master.1 in
    and_from _ _ (and_from _ _ key.0 version.0) (content_from image.content.0 image.content.1 body.0 rise master.0)

-- A value that has the shape of an image is the JSON of that image, and that JSON has its shape.

-- the members of an image's JSON
abbrev members_of : Image → Members
members_of image =
    body_data image.content.0 (member (codes "key") (string image.key) (member (codes "master") (string image.content.1) (member (codes "version") (version_data image.version) no_members)))

deleted_there : (f : Option (List Field)) (rest : Members) → get_member (codes "deleted") rest ≡ None → get_member (codes "deleted") (body_data f rest) ≡ at_deleted f
deleted_there None rest none = refl
deleted_there (Some fields) rest none = none

fields_there : (f : Option (List Field)) (rest : Members) → get_member (codes "fields") rest ≡ None → get_member (codes "fields") (body_data f rest) ≡ at_fields f
fields_there None rest none = none
fields_there (Some fields) rest none = refl

-- at the three names after the body
behind : (q : List ℕ) (f : Option (List Field)) (rest : Members) → bytes_eq q (codes "deleted") ≡ false → bytes_eq q (codes "fields") ≡ false → get_member q (body_data f rest) ≡ get_member q rest
behind q None rest deleted fields = get_member-member q (codes "deleted") _ rest ∙ rw deleted refl
behind q (Some fs) rest deleted fields = get_member-member q (codes "fields") _ rest ∙ rw fields refl

members_rise : (image : Image) (f : Option (List Field)) → Rise (body_data f (member (codes "key") (string image.key) (member (codes "master") (string image.content.1) (member (codes "version") (version_data image.version) no_members))))
members_rise image None = tt
members_rise image (Some fields) = tt

no_others : (image : Image) (f : Option (List Field)) → only_named image_members (body_data f (member (codes "key") (string image.key) (member (codes "master") (string image.content.1) (member (codes "version") (version_data image.version) no_members)))) ≡ true
no_others image None = refl
no_others image (Some fields) = refl

-- what the JSON of an image holds
image_holds : (image : Image) → Holds (members_of image) image
image_holds image = record {
  deleted = deleted_there image.content.0 _ refl;
  fields = fields_there image.content.0 _ refl;
  key = behind (codes "key") image.content.0 _ refl refl;
  master = behind (codes "master") image.content.0 _ refl refl;
  version = behind (codes "version") image.content.0 _ refl refl;
  others = no_others image image.content.0;
}

same_found : (ms ns : Members) (image : Image) → Holds ms image → Holds ns image → (q : List ℕ) → get_member q ms ≡ get_member q ns
same_found ms ns image one two q =
    or_elsewhere q (codes "deleted") ms ns _ one.deleted two.deleted (λ d.
    or_elsewhere q (codes "fields") ms ns _ one.fields two.fields (λ f.
    or_elsewhere q (codes "key") ms ns _ one.key two.key (λ k.
    or_elsewhere q (codes "master") ms ns _ one.master two.master (λ m.
    or_elsewhere q (codes "version") ms ns _ one.version two.version (λ v.
    let apart : list_any (bytes_eq q) image_members ≡ false = rw (d, f, k, m, v) refl in
    get_member-unnamed image_members ms q one.others apart ∙ sym (get_member-unnamed image_members ns q two.others apart))))))

-- a value of an image's shape, whose names rise, is the JSON of the image
pub shape_found : (ms : Members) (image : Image) → Rise ms → shape_in (object ms) ≡ Ok image → object ms ≡ image_data image
shape_found ms image rise is =
    ap object (same_members ms (members_of image) rise (members_rise image image.content.0) (same_found ms (members_of image) image (holds ms image is) (image_holds image)))

all_values-fields_data : (fields : List Field) → list_all is_field fields ≡ true → all_values (fields_data fields) ≡ true
all_values-fields_data [] fit = refl
all_values-fields_data (field ∷ fields) fit =
    let parts = and_parts (is_field field) (list_all is_field fields) fit in
    rw (value_in-value_data field.1 (field_value field parts.0)) (all_values-fields_data fields parts.1)

-- fields that fit are those of their members
pub fields_of-fields_data : (fields : List Field) → list_all is_field fields ≡ true → fields_of (fields_data fields) ≡ fields
fields_of-fields_data [] fit = refl
fields_of-fields_data (field ∷ fields) fit =
    let parts = and_parts (is_field field) (list_all is_field fields) fit in
    rw (value_in-value_data field.1 (field_value field parts.0), fields_of-fields_data fields parts.1) refl

pub each_fits : (fields : List Field) → fields_fit fields ≡ true → list_all is_field fields ≡ true
each_fits fields fit =
    let together = and_parts (leb (length fields) 64 && list_all is_field fields) (leb (sum_by field_size fields) 8192) fit in
    (and_parts (leb (length fields) 64) (list_all is_field fields) together.0).1

shape_again_of : (key master : List ℕ) (version : ℕ × ℕ) (f : Option (List Field)) → is_body f ≡ true → let image : Image = record { key = key; version = version; content = (f, master) } in shape_in (image_data image) ≡ Ok image
unfolding shape_in
shape_again_of key master version None fits = refl
shape_again_of key master version (Some fields) fits =
    let each = each_fits fields (and_parts (fields_fit fields) (names_rise fields) fits).0 in rw (all_values-fields_data fields each, fields_of-fields_data fields each) refl

-- the JSON of an image has its shape
pub shape_again : (image : Image) → is_image image ≡ true → shape_in (image_data image) ≡ Ok image
shape_again image is =
    let content = (and_parts (is_key image.key && is_version image.version) (is_content image.content) is).1 in
    let body = (and_parts (is_body image.content.0) (is_name image.content.1) content).0 in
    shape_again_of image.key image.content.1 image.version image.content.0 body

-- the same of a value that a map holds
pub shape_found_in : (d : Data) (entries : List (String Global × Value)) (image : Image) → Some (members_view entries) ≡ as_object d → IsStrictlySortedBy string_cmp (keys_of entries) → shape_in d ≡ Ok image
    → d ≡ image_data image
shape_found_in d entries image members ordered is =
    let object_is : d ≡ object (members_view entries) = object_from_as_object d (members_view entries) (sym members) in
    object_is ∙ shape_found (members_view entries) image (Rise-map entries ordered) (ap shape_in (sym object_is) ∙ is)

-- an image's value is read as the image
pub image_again : (d : Data) (image : Image) → IsImage d image → image_in d ≡ Ok image
unfolding image_in
image_again d image is = rw (is.value, shape_again image is.limits, in_ranges image is.limits) refl

-- The values of fields as JSON, and what a value that has the shape of an image holds at each name.
use Rattle.std.proofs.Common.{◌≡◌, ℤ, pos, negsuc, ◌^◌, [], length, Bool, true, false, ◌&&◌, cond, Some, None, option_map, unwrap_or, is_some, leb, nat_lt, refl, sym, ap, ◌∙◌, arith, ℕ, ◌+◌, ◌<◌, ◌≤◌, List, ◌∷◌, ◌++◌, get_or, take, map, codes, Option, Ok}
use Rattle.std.proofs.lemmas.Bool.{and_parts, ltb-true}
use Rattle.std.specs.Fmt.{signed_decimal}
use Rattle.std.specs.List.{list_all, sum_by}
use Rattle.std.proofs.lemmas.List.{get_or-map, length-map, map-append, take_more}
use Rattle.std.proofs.lemmas.List.Folds.{list_all_more, list_all_at}
use Rattle.std.proofs.lemmas.List.Sums.{sum_by_more}
use Rattle.std.proofs.lemmas.Bool.Decides.{nat_tests}
use Rattle.serde_json.specs.Data.{unsigned, negative, float, Data, null, boolean, number, string, array, object, Items, no_items, item, Members, no_members, member}
use Rattle.serde_json.specs.Find.{of_integer, as_array, get_member, as_bool, as_object, as_str}
use Rattle.serde_json.specs.Read.{number_of, of_json}
use Rattle.serde_json.specs.Written.{number_text, outline}
use Rattle.serde_json.proofs.Numbers.{number_of-decimal, number_of-negative}
use Rattle.pn_json.specs.Members.{whole_number, only_named, member_as, no_others}
use Rattle.pn_json.proofs.LookUps.{and_then_some, map_some, array_from_as_array, number_from_whole, bind_ok, guard_ok, ok_or_ok, true_from_as_bool, string_from_as_str, object_from_as_object}
use Rattle.pn_record.specs.Grammar.{value_in, value_or_empty, all_values, fields_of, deleted_in, object_fields, fields_in, two_numbers, numbers_in, image_members, shape_in}
use Rattle.pn_record.specs.Limits.{FieldValue, number_value, text_value, Field, is_number, is_value, is_field, field_size, fields_fit}
use Rattle.pn_record.specs.Writing.{value_data, version_data, fields_data}
use Rattle.pn_record.specs.declared.records.Image.{Image}
use Rattle.pn_record.specs.declared.fault.Member.{Member}
use Rattle.pn_record.specs.declared.fault.Member.TheVariants.{Fields, Key, Master, Version, Other}

-- The value of a field as JSON, and what is read of it.

in_range_again : (b : Bool) (z : ℤ) → is_some (option_map number_value (cond b (Some z) None)) ≡ true → value_data (unwrap_or (option_map number_value (cond b (Some z) None)) (text_value [])) ≡ number (of_integer z)
in_range_again true z is = refl
in_range_again false z is = cc

-- a value of a field is the JSON of what was read of it
pub value_again : (d : Data) → is_some (value_in d) ≡ true → value_data (value_or_empty d) ≡ d
value_again null is = cc
value_again (boolean b) is = cc
value_again (number (unsigned n)) is = in_range_again (nat_lt n (2 ^ 63)) (pos n) is
value_again (number (negative (pos n))) is = cc
value_again (number (negative (negsuc n))) is = in_range_again (nat_lt n (2 ^ 63)) (negsuc n) is
value_again (number (float x)) is = cc
value_again (string t) is = refl
value_again (array es) is = cc
value_again (object ns) is = cc

pub value_from : (d : Data) (value : FieldValue) → value_in d ≡ Some value → d ≡ value_data value
value_from d value is =
    sym (value_again d (ap is_some is)) ∙ ap (λ o. value_data (unwrap_or o (text_value []))) is

-- and the JSON of a value that fits is read as the value
pub value_in-value_data : (value : FieldValue) → is_value value ≡ true → value_in (value_data value) ≡ Some value
value_in-value_data (number_value (pos n)) is = let small : nat_lt n (2 ^ 63) ≡ true = is in rw small refl
value_in-value_data (number_value (negsuc n)) is = let small : nat_lt n (2 ^ 63) ≡ true = is in rw small refl
value_in-value_data (text_value text) is = refl

pub field_value : (field : Field) → is_field field ≡ true → is_value field.1 ≡ true
field_value field is = (and_parts (leb 1 (length field.0) && leb (length field.0) 64) (is_value field.1) is).1

-- a whole number is written in decimal
pub number_text-of_integer : (z : ℤ) → number_text (of_integer z) ≡ signed_decimal z
number_text-of_integer (pos n) = refl
number_text-of_integer (negsuc n) = refl

small_number : (z : ℤ) → is_number z ≡ true → number_of (number_text (of_integer z)) ≡ Some (of_integer z)
small_number (pos n) is = number_of-decimal n (omega (arith, ltb-true n (2 ^ 63) is))
small_number (negsuc n) is = number_of-negative n (ltb-true n (2 ^ 63) is)

-- and the text of a value that fits is of that value
pub of_json-value : (value : FieldValue) → is_value value ≡ true → of_json (outline (value_data value)) ≡ Some (value_data value)
of_json-value (number_value z) is = ap (option_map number) (small_number z is)
of_json-value (text_value text) is = refl

-- What a look into a version or into fields found, the value is.

items_from_two : (ds : Items) (v : ℕ × ℕ) → two_numbers ds ≡ Some v → array ds ≡ version_data v
items_from_two no_items v is = cc
items_from_two (item a no_items) v is = cc
items_from_two (item a (item b (item c ds))) v is = cc
items_from_two (item a (item b no_items)) v is =
    let first = and_then_some (whole_number a) _ v is in
    let second = map_some (whole_number b) (λ n. (first.0, n)) v first.2 in
    let one : a ≡ number (unsigned v.0) = number_from_whole a first.0 first.1 ∙ ap (λ (p : ℕ × ℕ). number (unsigned p.0)) second.2 in
    let two : b ≡ number (unsigned v.1) = number_from_whole b second.0 second.1 ∙ ap (λ (p : ℕ × ℕ). number (unsigned p.1)) second.2 in
    rw (one, two) refl

-- the value of two whole numbers is the array of them
pub version_from_numbers : (d : Data) (v : ℕ × ℕ) → numbers_in d ≡ Some v → d ≡ version_data v
version_from_numbers d v is =
    let found = and_then_some (as_array d) two_numbers v is in
    array_from_as_array d found.0 found.1 ∙ items_from_two found.0 v found.2

-- members that are values of fields alone are those of their fields
pub fields_data-fields_of : (ms : Members) → all_values ms ≡ true → fields_data (fields_of ms) ≡ ms
fields_data-fields_of no_members is = refl
fields_data-fields_of (member name d ms) is =
    let parts = and_parts (is_some (value_in d)) (all_values ms) is in
    rw (value_again d parts.0, fields_data-fields_of ms parts.1) refl

-- Fields that a loop tests and counts one by one.

module _ {Y : Type 0} (f : Y → Field) (ys : List Y) (i : ℕ) (y : Y) (here : y ≡ get_or ys i y) (inside : i < length ys) where
  at_i : get_or (map f ys) i (f y) ≡ f y
  at_i = get_or-map f ys i y (f y) inside ∙ ap f (sym here)

  within : i < length (map f ys)
  within = omega (arith, length-map ys f)

  pub unfit : is_field (f y) ≡ false → fields_fit (map f ys) ≡ false
  unfit bad =
      let some : list_all is_field (map f ys) ≡ false = list_all_at is_field (map f ys) i (f y) within (ap is_field at_i ∙ bad) in
      grind (arith, nat_tests)

  pub fit_more : list_all is_field (take i (map f ys)) ≡ true → is_field (f y) ≡ true → list_all is_field (take (i + 1) (map f ys)) ≡ true
  fit_more so_far good =
      let more = list_all_more is_field (map f ys) i (f y) within in
      let one = ap is_field at_i in
      cc

  pub size_more : sum_by field_size (take (i + 1) (map f ys)) ≡ sum_by field_size (take i (map f ys)) + field_size (f y)
  size_more = sum_by_more field_size (map f ys) i (f y) within ∙ ap (λ (x : Field). sum_by field_size (take i (map f ys)) + field_size x) at_i

  pub size_bound : is_field (f y) ≡ true → field_size (f y) ≤ 4160
  size_bound good = grind (arith, nat_tests)

  -- a copy that shows the same, after one more
  pub copied_more : (zs : List Y) (z : Y) → map f zs ≡ take i (map f ys) → f z ≡ f y → map f (zs ++ z ∷ []) ≡ take (i + 1) (map f ys)
  copied_more zs z so_far one =
      map-append f zs (z ∷ []) ∙ (λ j. so_far j ++ (one ∙ sym at_i) j ∷ []) ∙ sym (take_more (map f ys) i (f y) within)

-- What a value that has the shape of an image holds at each name.

-- the values of `deleted` and `fields`
abbrev pub at_deleted : Option (List Field) → Option Data
at_deleted None = Some (boolean true)
at_deleted (Some fields) = None

abbrev pub at_fields : Option (List Field) → Option Data
at_fields None = None
at_fields (Some fields) = Some (object (fields_data fields))

-- each name has the value of the image there, and no other name has one
pub record Holds (ms : Members) (image : Image) : Type 0 where
  pub deleted : get_member (codes "deleted") ms ≡ at_deleted image.content.0
  pub fields : get_member (codes "fields") ms ≡ at_fields image.content.0
  pub key : get_member (codes "key") ms ≡ Some (string image.key)
  pub master : get_member (codes "master") ms ≡ Some (string image.content.1)
  pub version : get_member (codes "version") ms ≡ Some (version_data image.version)
  pub others : only_named image_members ms ≡ true

deleted_ok : (o : Option Data) (b : Bool) → deleted_in o ≡ Ok b → o ≡ cond b (Some (boolean true)) None
deleted_ok None true is = absurd (cc)
deleted_ok None false is = refl
deleted_ok (Some d) true is = ap Some (true_from_as_bool d (guard_ok (unwrap_or (as_bool d) false) true true _ is).0)
deleted_ok (Some d) false is = let found = guard_ok (unwrap_or (as_bool d) false) true false _ is in absurd (cc)

object_fields_ok : (o : Option Members) (f : Option (List Field)) → object_fields o ≡ Ok f → (ms : Members) × (o ≡ Some ms) × (f ≡ Some (fields_of ms)) × (all_values ms ≡ true)
object_fields_ok None f is = absurd (cc)
object_fields_ok (Some ms) f is = let found = guard_ok (all_values ms) (Some (fields_of ms)) f Fields is in (ms, refl, sym found.1, found.0)

body_ok : (o p : Option Data) (b : Bool) (f : Option (List Field)) → deleted_in o ≡ Ok b → fields_in b p ≡ Ok f → (o ≡ at_deleted f) × (p ≡ at_fields f)
body_ok o None true f there is = let e : f ≡ None = cc in rw e (deleted_ok o true there, refl)
body_ok o (Some d) true f there is = absurd (cc)
body_ok o None false f there is = absurd (cc)
body_ok o (Some d) false f there is =
    let found = object_fields_ok (as_object d) f is in
    let members : d ≡ object (fields_data (fields_of found.0)) = object_from_as_object d found.0 found.1 ∙ ap object (sym (fields_data-fields_of found.0 found.3)) in
    rw found.2 (deleted_ok o false there, ap Some members)

text_ok : (name : Member) (o : Option Data) (text : List ℕ) → member_as as_str name o ≡ Ok text → o ≡ Some (string text)
text_ok name o text is =
    let found = and_then_some o as_str text (ok_or_ok _ name text is) in
    found.1 ∙ ap Some (string_from_as_str found.0 text found.2)

version_ok : (o : Option Data) (v : ℕ × ℕ) → member_as numbers_in Version o ≡ Ok v → o ≡ Some (version_data v)
version_ok o v is =
    let found = and_then_some o numbers_in v (ok_or_ok _ Version v is) in
    found.1 ∙ ap Some (version_from_numbers found.0 v found.2)

pub holds : (ms : Members) (image : Image) → shape_in (object ms) ≡ Ok image → Holds ms image
unfolding shape_in
holds ms image is =
    let deleted = bind_ok (deleted_in (get_member (codes "deleted") ms)) _ image is in
    let fields = bind_ok (fields_in deleted.0 (get_member (codes "fields") ms)) _ image deleted.2 in
    let key = bind_ok (member_as as_str Key (get_member (codes "key") ms)) _ image fields.2 in
    let master = bind_ok (member_as as_str Master (get_member (codes "master") ms)) _ image key.2 in
    let version = bind_ok (member_as numbers_in Version (get_member (codes "version") ms)) _ image master.2 in
    let named = bind_ok (no_others image_members Other ms) _ image version.2 in
    let whole : record { key = key.0; version = version.0; content = (fields.0, master.0) } ≡ image = cc named.2 in
    let body = body_ok _ _ deleted.0 fields.0 deleted.1 fields.1 in
    rw (← whole) (record {
      deleted = body.0;
      fields = body.1;
      key = text_ok Key _ key.0 key.1;
      master = text_ok Master _ master.0 master.1;
      version = version_ok _ version.0 version.1;
      others = (guard_ok (only_named image_members ms) tt named.0 Other named.1).0;
    })

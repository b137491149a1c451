-- The values of a copy's lines, read again from their texts.
use Rattle.std.proofs.Common.{◌≡◌, ℕ, suc, max, ◌^◌, ◌<◌, ◌≤◌, true, ◌&&◌, List, [], ◌∷◌, ◌++◌, codes, Option, Some, None, option_and_then, Ordering, Less, Equal, Greater, nat_cmp, IsUtf8, refl, sym, ap, ◌∙◌, append_assoc, append-nil, arith}
use Rattle.std.proofs.lemmas.Bool.{and_parts}
use Rattle.std.proofs.lemmas.Cmp.{nat_list_cmp_total}
use Rattle.std.proofs.lemmas.Str.{is_utf8-from_IsUtf8}
use Rattle.std.specs.Cmp.Lexicographic.{slice_cmp}
use Rattle.std.specs.List.{list_all}
use Rattle.std.specs.FinMap.Entries.{below_all}
use Rattle.std.specs.Ordering.{is_lt, ordering_reverse}
use Rattle.json.specs.Json as json
use Rattle.json.specs.Tree as tree
use Rattle.json.specs.Lex.{tokens}
use Rattle.json.proofs.Printed.Trees.{value-json_tokens}
use Rattle.serde_json.specs.Data.{Data, null, boolean, number, string, array, object, Items, no_items, item, Members, no_members, member, depth, items_depth, members_depth, put}
use Rattle.serde_json.specs.Read.{of_members, read, max_depth}
use Rattle.serde_json.specs.Written.{outline, items_outline, members_outline}
use Rattle.serde_json.proofs.Numbers.{number_of-decimal}
use Rattle.pn_record.specs.declared.records.Image.{Image}
use Rattle.pn_record.specs.Limits.{fields_fit, names_rise, is_body, is_content, Field, is_field, is_key, is_version}
use Rattle.pn_record.specs.Reading.{is_image, reading}
use Rattle.pn_record.specs.Writing.{value_data, version_data, fields_data, body_data, image_data}
use Rattle.pn_record.proofs.ShapeParts.{field_value, of_json-value}
use Rattle.pn_join.specs.Naming.{is_name}
use Rattle.pn_tablet.specs.CopyTexts.{head_data, mark_data, end_data, form_number}
use Rattle.pn_tablet.specs.CopyWriting.{IsReadAgain}
use Rattle.pn_tablet.specs.declared.copy.Form.{Form}
use Rattle.pn_tablet.proofs.CopyLineTexts.{below_version, fields_are, small_form}

mutual
  outline_depth : (d : Data) → tree.depth (outline d) ≡ depth d
  outline_depth null = refl
  outline_depth (boolean b) = refl
  outline_depth (number n) = refl
  outline_depth (string s) = refl
  outline_depth (array ds) = ap suc (items_outline_depth ds)
  outline_depth (object ms) = ap suc (members_outline_depth ms)

  items_outline_depth : (ds : Items) → tree.items_depth (items_outline ds) ≡ items_depth ds
  items_outline_depth no_items = refl
  items_outline_depth (item d ds) = λ i. max (outline_depth d i) (items_outline_depth ds i)

  members_outline_depth : (ms : Members) → tree.members_depth (members_outline ms) ≡ members_depth ms
  members_outline_depth no_members = refl
  members_outline_depth (member name d ms) = λ i. max (outline_depth d i) (members_outline_depth ms i)

-- a text with the tokens of a value is read as the value
pub text_read : (d : Data) (text : List ℕ) → tokens text ≡ tree.json_tokens (outline d) → IsUtf8 text → IsReadAgain d → depth d ≤ 127 → reading text ≡ Some d
unfolding reading
text_read d text are utf8 again shallow =
    let parsed : json.value max_depth (tokens text) ≡ Some (outline d, []) =
    ap (json.value max_depth) (are ∙ sym (append-nil (tree.json_tokens (outline d)))) ∙ value-json_tokens (outline d) max_depth [] (omega (arith, outline_depth d, shallow)) in
    let is : read text ≡ Some d = rw parsed again in
    rw (is_utf8-from_IsUtf8 text utf8) is

-- ---- fields

less_from : (o : Ordering) → is_lt o ≡ true → o ≡ Less
less_from Less is = refl
less_from Equal is = cc
less_from Greater is = cc

below_there : (name : List ℕ) (done : List Field) (field : Field) (rest : List Field) → below_all (slice_cmp nat_cmp) name (done ++ field ∷ rest) ≡ true → is_lt (slice_cmp nat_cmp name field.0) ≡ true
below_there name [] field rest below = (and_parts (is_lt (slice_cmp nat_cmp name field.0)) (below_all (slice_cmp nat_cmp) name rest) below).0
below_there name (other ∷ done) field rest below =
    below_there name done field rest (and_parts (is_lt (slice_cmp nat_cmp name other.0)) (below_all (slice_cmp nat_cmp) name (done ++ field ∷ rest)) below).1

-- a field whose name is greater than those before it is put last
put_last : (done : List Field) (field : Field) (rest : List Field) → names_rise (done ++ field ∷ rest) ≡ true → put field.0 (value_data field.1) (fields_data done) ≡ fields_data (done ++ field ∷ [])
put_last [] field rest rise = refl
put_last (other ∷ done) field rest rise =
    let parts = and_parts (below_all (slice_cmp nat_cmp) other.0 (done ++ field ∷ rest)) (names_rise (done ++ field ∷ rest)) rise in
    let less : slice_cmp nat_cmp other.0 field.0 ≡ Less = less_from _ (below_there other.0 done field rest parts.0) in
    let above : slice_cmp nat_cmp field.0 other.0 ≡ Greater = nat_list_cmp_total.antisymm field.0 other.0 ∙ ap ordering_reverse less in
    rw above (ap (member other.0 (value_data other.1)) (put_last done field rest parts.1))

fields_again : (done fields : List Field) → names_rise (done ++ fields) ≡ true → list_all is_field fields ≡ true → of_members (members_outline (fields_data fields)) (fields_data done) ≡ Some (fields_data (done ++ fields))
fields_again done [] rise fit = ap (λ fs. Some (fields_data fs)) (sym (append-nil done))
fields_again done (field ∷ fields) rise fit =
    let parts = and_parts (is_field field) (list_all is_field fields) fit in
    ap (λ (read : Option Data). option_and_then (λ d. of_members (members_outline (fields_data fields)) (put field.0 d (fields_data done))) read) (of_json-value field.1 (field_value field parts.0))
    ∙ ap (of_members (members_outline (fields_data fields))) (put_last done field fields rise)
    ∙ fields_again (done ++ field ∷ []) fields (ap names_rise (append_assoc done (field ∷ []) fields) ∙ rise) parts.1
    ∙ ap (λ fs. Some (fields_data fs)) (append_assoc done (field ∷ []) fields)

-- ---- lines

body_again : (body : Option (List Field)) (key master : List ℕ) (version : ℕ × ℕ) → is_body body ≡ true → version.0 < 2 ^ 64 → version.1 < 2 ^ 64
    → IsReadAgain (object (body_data body (member (codes "key") (string key) (member (codes "master") (string master) (member (codes "version") (version_data version) no_members)))))
body_again None key master version is first second = rw (number_of-decimal version.0 first, number_of-decimal version.1 second) refl
body_again (Some fields) key master version is first second =
    let all : of_members (members_outline (fields_data fields)) no_members ≡ Some (fields_data fields) = fields_again [] fields (and_parts (fields_fit fields) (names_rise fields) is).1 (fields_are fields is) in
    rw (all, number_of-decimal version.0 first, number_of-decimal version.1 second) refl

pub image_again : (image : Image) → is_image image ≡ true → IsReadAgain (image_data image)
image_again image is =
    let parts = and_parts (is_key image.key && is_version image.version) (is_content image.content) is in
    let content = and_parts (is_body image.content.0) (is_name image.content.1) parts.1 in
    let version = below_version image.version (and_parts (is_key image.key) (is_version image.version) parts.0).1 in
    body_again image.content.0 image.key image.content.1 image.version content.0 version.0 version.1

pub mark_again : (name : List ℕ) (position : ℕ) → position < 2 ^ 64 → IsReadAgain (mark_data (name, position))
mark_again name position small = rw (number_of-decimal position small) refl

pub end_again : (count : ℕ) → count < 2 ^ 64 → IsReadAgain (end_data count)
end_again count small = rw (number_of-decimal count small) refl

pub head_again : (form : Form) (from to : Option (List ℕ)) → IsReadAgain (head_data (form, (from, to)))
head_again form None None = rw (number_of-decimal (form_number form) (small_form form)) refl
head_again form None (Some to) = rw (number_of-decimal (form_number form) (small_form form)) refl
head_again form (Some from) None = rw (number_of-decimal (form_number form) (small_form form)) refl
head_again form (Some from) (Some to) = rw (number_of-decimal (form_number form) (small_form form)) refl

-- The members of a value that is an image, in the order of their names.
use Rattle.std.proofs.Common.{◌≡◌, List, codes, true, Option, Some, None, Result, Ok, Err, IsOk, IsTrue, refl, sym, ap, ◌∙◌, [], ◌∷◌, map, String, Global, string_cmp}
use Rattle.std.specs.Option.{ok_or}
use Rattle.std.specs.Borrow.{Bor}
use Rattle.std.specs.List.Sorted.{IsStrictlySortedBy}
use Rattle.std.specs.Map.{keys_of, values_of}
use Rattle.std.specs.Map.Iter.{TakesFirst, deref}
use Rattle.serde_json.specs.Data.{Data, object, Members, boolean, string, no_members, member}
use Rattle.serde_json.specs.Find.{get, as_object}
use Rattle.serde_json.specs.View.{view, members_view}
use Rattle.serde_json.specs.declared.value.Value.{Value}
use Rattle.pn_join.specs.Naming.{is_name}
use Rattle.pn_json.specs.Answers.{fault_as}
use Rattle.pn_json.proofs.LookUps.{bind_ok, ok_or_ok, passed, object_from_as_object}
use Rattle.pn_json.specs.Members.{text_at, seen}
use Rattle.pn_record.specs.Grammar.{body_fits, shape_in, ranges_in, image_in, numbers_at, fields_at}
use Rattle.pn_record.specs.Limits.{Field, is_key, is_version}
use Rattle.pn_record.specs.declared.records.Image.{Image}
use Rattle.pn_record.proofs.ReadImages.{named_ok}
use Rattle.pn_record.proofs.SameImage.{each_fits, fields_of-fields_data, shape_found_in}
use Rattle.pn_record.proofs.ShapeParts.{Holds, holds, at_fields}
use Rattle.pn_record.specs.Writing.{version_data, fields_data, body_data, image_data}
use Rattle.pn_record.specs.declared.fault.Member.TheVariants.{Whole}
use Rattle.pn_record.specs.declared.fault.Member.TheVariants as fault

-- The members of a value that is an image.

-- the image put together from the members
abbrev pub parts : Data → Image
parts d = record {
  key = text_at (get (codes "key") d);
  version = numbers_at (get (codes "version") d);
  content = (fields_at (get (codes "fields") d), text_at (get (codes "master") d));
}

-- the value is the image of its parts, which break no range
pub record IsOfParts (d : Data) : Type 0 where
  pub image : image_in d ≡ Ok (parts d)
  pub body : IsTrue (body_fits (parts d).content.0)
  pub key : IsTrue (is_key (parts d).key)
  pub master : IsTrue (is_name (parts d).content.1)
  pub version : IsTrue (is_version (parts d).version)

fields_again : (f : Option (List Field)) → body_fits f ≡ true → fields_at (at_fields f) ≡ f
fields_again None fit = refl
fields_again (Some fields) fit = ap Some (fields_of-fields_data fields (each_fits fields fit))

parts_held : (ms : Members) (image : Image) → body_fits image.content.0 ≡ true → Holds ms image → parts (object ms) ≡ image
parts_held ms image fit held = rw (held.key, held.master, held.version, held.fields, fields_again image.content.0 fit) refl

parts_in_shape : (d : Data) (image : Image) → body_fits image.content.0 ≡ true → shape_in d ≡ Ok image → parts d ≡ image
unfolding shape_in
parts_in_shape d image fit shape =
    let members = bind_ok (ok_or (as_object d) fault.Whole) _ image shape in
    let whole = object_from_as_object d members.0 (ok_or_ok (as_object d) fault.Whole members.0 members.1) in
    ap parts whole ∙ parts_held members.0 image fit (holds members.0 image (ap shape_in (sym whole) ∙ shape))

in_range : (d : Data) → image_in d ≡ Ok (parts d) → ranges_in (parts d) ≡ Ok tt → IsOfParts d
unfolding ranges_in
in_range d is fits =
    let body = passed (body_fits (parts d).content.0) _ _ tt fits in
    let key = passed (is_key (parts d).key) _ _ tt body.1 in
    let master = passed (is_name (parts d).content.1) _ _ tt key.1 in
    let version = passed (is_version (parts d).version) _ _ tt master.1 in
    record { image = is; body = body.0; key = key.0; master = master.0; version = version.0 }

body_in_range : (image : Image) → ranges_in image ≡ Ok tt → body_fits image.content.0 ≡ true
unfolding ranges_in
body_in_range image fits = (passed (body_fits image.content.0) _ _ tt fits).0

parts_of : (d : Data) (image : Image) → image_in d ≡ Ok image → IsOfParts d
unfolding image_in
parts_of d image is =
    let shape = bind_ok (fault_as _ (shape_in d)) _ image is in
    let fits = bind_ok (fault_as _ (ranges_in shape.0)) _ image shape.2 in
    let ranges = named_ok _ (ranges_in shape.0) fits.0 fits.1 in
    let same : parts d ≡ shape.0 = parts_in_shape d shape.0 (body_in_range shape.0 ranges) (named_ok _ (shape_in d) shape.0 shape.1) in
    let whole : shape.0 ≡ image = cc fits.2 in
    in_range d (is ∙ ap Ok (sym (same ∙ whole))) (ap ranges_in same ∙ ranges)

pub is_there : {A E : Type 0} (r : Result A E) → IsOk r → (a : A) × (r ≡ Ok a)
is_there (Ok a) found = (a, refl)
is_there (Err e) found = absurd (cc)

-- a value that is an image is the image of its parts
pub parts_found : (d : Data) → IsOk (image_in d) → IsOfParts d
parts_found d found = let image = is_there (image_in d) found in parts_of d image.0 image.1

-- the values of members
abbrev pub datas : Members → List Data
datas no_members = []
datas (member name d ms) = d ∷ datas ms

datas-members_view : (entries : List (String Global × Value)) → datas (members_view entries) ≡ map view (values_of entries)
datas-members_view [] = refl
datas-members_view (entry ∷ entries) = ap (λ ds. view entry.1 ∷ ds) (datas-members_view entries)

-- the value of the body
abbrev body_value : Option (List Field) → Data
body_value None = boolean true
body_value (Some fields) = object (fields_data fields)

datas-body_data : (f : Option (List Field)) (rest : Members) → datas (body_data f rest) ≡ body_value f ∷ datas rest
datas-body_data None rest = refl
datas-body_data (Some fields) rest = refl

-- the values of an image's members
abbrev pub image_datas : Image → List Data
image_datas image = body_value image.content.0 ∷ string image.key ∷ string image.content.1 ∷ version_data image.version ∷ []

datas-object : (ms : Members) (image : Image) → object ms ≡ image_data image → datas ms ≡ image_datas image
datas-object ms image is =
    let members : ms ≡ body_data image.content.0 (member (codes "key") (string image.key) (member (codes "master") (string image.content.1) (member (codes "version") (version_data image.version) no_members))) = cc in
    ap datas members ∙ datas-body_data image.content.0 _

-- the first value is taken
pub took : (s : List Value) (r : Option (Bor Value)) (t : List Value) (d : Data) (ds : List Data) → TakesFirst deref s r t → map view s ≡ d ∷ ds → (seen r ≡ Some d) × (map view t ≡ ds)
took s None t d ds takes is = let none : [] ≡ d ∷ ds = ap (map view) (sym takes.0) ∙ is in absurd (cc)
took s (Some v) t d ds takes is = let both : view v.now ∷ map view t ≡ d ∷ ds = ap (map view) (sym takes) ∙ is in (cc, cc)

pub shaped : (d : Data) → IsOk (image_in d) → (image : Image) × (shape_in d ≡ Ok image)
unfolding image_in
shaped d found =
    let whole = is_there (image_in d) found in
    let shape = bind_ok (fault_as _ (shape_in d)) _ whole.0 whole.1 in
    (shape.0, named_ok _ (shape_in d) shape.0 shape.1)

-- the entries of a map that is an image, and its members by name
pub record InOrderOf (d : Data) (taken : List Value) (image : Image) : Type 0 where
  pub values : map view taken ≡ image_datas image
  pub key : get (codes "key") d ≡ Some (string image.key)
  pub master : get (codes "master") d ≡ Some (string image.content.1)
  pub version : get (codes "version") d ≡ Some (version_data image.version)

pub in_order_of : (d : Data) (entries : List (String Global × Value)) → Some (members_view entries) ≡ as_object d → IsStrictlySortedBy string_cmp (keys_of entries) → IsOk (image_in d) → (image : Image) × InOrderOf d (values_of entries) image
in_order_of d entries members ordered found =
    let shape = shaped d found in
    let image = shape.0 in
    let whole : d ≡ object (members_view entries) = object_from_as_object d (members_view entries) (sym members) in
    let same : d ≡ image_data image = shape_found_in d entries image members ordered shape.1 in
    let held : Holds (members_view entries) image = holds (members_view entries) image (ap shape_in (sym whole) ∙ shape.1) in (
      image,
      record {
        values = sym (datas-members_view entries) ∙ datas-object (members_view entries) image (sym whole ∙ same);
        key = ap (get (codes "key")) whole ∙ held.key;
        master = ap (get (codes "master")) whole ∙ held.master;
        version = ap (get (codes "version")) whole ∙ held.version;
      },
    )

pub object_there : (d : Data) → IsOk (image_in d) → as_object d ≡ None → ⊥
unfolding shape_in
object_there d found none =
    let shape = shaped d found in
    let members = bind_ok (ok_or (as_object d) Whole) _ shape.0 shape.1 in
    let some : Some members.0 ≡ None = sym (ok_or_ok (as_object d) Whole members.0 members.1) ∙ none in
    cc

-- what was taken after the body is what the names find
pub record Walked (d : Data) (k m v : Option (Bor Value)) : Type 0 where
  pub key : seen k ≡ get (codes "key") d
  pub master : seen m ≡ get (codes "master") d
  pub version : seen v ≡ get (codes "version") d

pub walked : (d : Data) (entries : List (String Global × Value)) (s0 s1 s2 s3 s4 : List Value) (b k m v : Option (Bor Value)) → Some (members_view entries) ≡ as_object d → IsStrictlySortedBy string_cmp (keys_of entries)
    → IsOk (image_in d) → s0 ≡ values_of entries → TakesFirst deref s0 b s1 → TakesFirst deref s1 k s2 → TakesFirst deref s2 m s3 → TakesFirst deref s3 v s4 → Walked d k m v
walked d entries s0 s1 s2 s3 s4 b k m v members ordered found all first second third fourth =
    let order = (in_order_of d entries members ordered found).1 in
    let one = took s0 b s1 _ _ first (ap (map view) all ∙ order.values) in
    let two = took s1 k s2 _ _ second one.1 in
    let three = took s2 m s3 _ _ third two.1 in
    let four = took s3 v s4 _ _ fourth three.1 in
    record { key = two.0 ∙ sym order.key; master = three.0 ∙ sym order.master; version = four.0 ∙ sym order.version }

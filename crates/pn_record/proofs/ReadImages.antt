-- A value that is read of a line, and read as an image, is the JSON of the image: its members rise.
use Rattle.std.proofs.Common.{◌≡◌, ℕ, List, T, Bool, true, false, cond, Option, Some, None, option_map, option_and_then, Ordering, Less, Equal, Greater, nat_cmp, IfSome, sym, ◌∙◌, refl, subst, [], ◌∷◌, codes, ◌&&◌, Result, Ok, Err, ap}
use Rattle.std.proofs.lemmas.Cmp.{nat_list_cmp_total}
use Rattle.std.specs.Cmp.Lexicographic.{slice_cmp}
use Rattle.std.specs.FinMap.Entries.{by_order, is_sorted, is_sorted-put, put as put_entry, below_all}
use Rattle.std.specs.Ordering.{match_ordering, is_lt}
use Rattle.std.specs.Str.{is_utf8}
use Rattle.std.specs.Option.{ok_or}
use Rattle.json.specs.Lex.{tokens}
use Rattle.serde_json.specs.Data.{Data, null, boolean, number, string, array, object, Num, Items, no_items, item, Members, no_members, member, put}
use Rattle.serde_json.specs.Find.{get_member, as_object}
use Rattle.serde_json.specs.Read.{number_of, of_json, of_items, of_members, max_depth, read}
use Rattle.json.specs.Json as json
use Rattle.pn_json.proofs.LookUps.{entries_of, Rise, bind_ok, ok_or_ok, object_from_as_object}
use Rattle.pn_json.specs.Answers.{fault_as}
use Rattle.pn_record.specs.Reading.{reading, IsImage, body_rises}
use Rattle.pn_record.specs.Grammar.{shape_in, ranges_in, image_in}
use Rattle.pn_record.specs.Limits.{Field}
use Rattle.pn_record.specs.Writing.{fields_data, body_data, image_data}
use Rattle.pn_record.specs.declared.records.Image.{Image}
use Rattle.pn_record.proofs.SameImage.{image_from_ranges, shape_found}
use Rattle.pn_record.specs.declared.fault.Member.TheVariants as fault

-- The members of each object that `serde_json` reads rise by their names.

-- the members of each object in the value rise
abbrev mutual
  pub InOrder : Data → Type 0
  InOrder null = Unit {0}
  InOrder (boolean b) = Unit {0}
  InOrder (number n) = Unit {0}
  InOrder (string s) = Unit {0}
  InOrder (array ds) = ItemsInOrder ds
  InOrder (object ms) = Rise ms × MembersInOrder ms

  pub ItemsInOrder : Items → Type 0
  ItemsInOrder no_items = Unit {0}
  ItemsInOrder (item d ds) = InOrder d × ItemsInOrder ds

  pub MembersInOrder : Members → Type 0
  MembersInOrder no_members = Unit {0}
  MembersInOrder (member name d ms) = InOrder d × MembersInOrder ms

entries-match_ordering : (o : Ordering) (a b c : Members) → entries_of (match_ordering o a b c) ≡ by_order o (entries_of a) (entries_of b) (entries_of c)
entries-match_ordering Less a b c = refl
entries-match_ordering Equal a b c = refl
entries-match_ordering Greater a b c = refl

entries-put : (name : List ℕ) (d : Data) (ms : Members) → entries_of (put name d ms) ≡ put_entry (slice_cmp nat_cmp) name d (entries_of ms)
entries-put name d no_members = refl
entries-put name d (member other e ms) =
    entries-match_ordering (slice_cmp nat_cmp name other) (member name d (member other e ms)) (member other d ms) (member other e (put name d ms))
    ∙ rw (entries-put name d ms) refl

rise-put : (name : List ℕ) (d : Data) (ms : Members) → Rise ms → Rise (put name d ms)
rise-put name d ms rise =
    subst (λ es. T (is_sorted (slice_cmp nat_cmp) es)) (sym (entries-put name d ms)) (is_sorted-put (slice_cmp nat_cmp) nat_list_cmp_total name d (entries_of ms) rise)

members-match_ordering : (o : Ordering) (a b c : Members) → MembersInOrder a → MembersInOrder b → MembersInOrder c → MembersInOrder (match_ordering o a b c)
members-match_ordering Less a b c p q r = p
members-match_ordering Equal a b c p q r = q
members-match_ordering Greater a b c p q r = r

members-put : (name : List ℕ) (d : Data) (ms : Members) → InOrder d → MembersInOrder ms → MembersInOrder (put name d ms)
members-put name d no_members p q = (p, tt)
members-put name d (member other e ms) p q =
    members-match_ordering (slice_cmp nat_cmp name other) (member name d (member other e ms)) (member other d ms) (member other e (put name d ms))
    (p, q) (p, q.1) (q.0, members-put name d ms p q.1)

mapped : {A B : Type 0} (P : A → Type 0) (Q : B → Type 0) (f : A → B) → ((a : A) → P a → Q (f a)) → (o : Option A) → IfSome o P → IfSome (option_map f o) Q
mapped P Q f so None holds = tt
mapped P Q f so (Some a) holds = so a holds

chained : {A B : Type 0} (P : A → Type 0) (Q : B → Type 0) (f : A → Option B) → ((a : A) → P a → IfSome (f a) Q) → (o : Option A) → IfSome o P → IfSome (option_and_then f o) Q
chained P Q f so None holds = tt
chained P Q f so (Some a) holds = so a holds

numbers : (o : Option Num) → IfSome (option_map number o) InOrder
numbers None = tt
numbers (Some n) = tt

mutual
  in_order-of_json : (j : json.Json) → IfSome (of_json j) InOrder
  in_order-of_json json.null = tt
  in_order-of_json (json.boolean b) = tt
  in_order-of_json (json.number s) = numbers (number_of s)
  in_order-of_json (json.string s) = tt
  in_order-of_json (json.array js) = mapped ItemsInOrder InOrder array (λ ds p. p) (of_items js) (in_order-of_items js)
  in_order-of_json (json.object ms) =
      mapped (λ found. Rise found × MembersInOrder found) InOrder object (λ found p. p) (of_members ms no_members) (in_order-of_members ms no_members tt tt)

  in_order-of_items : (js : json.Items) → IfSome (of_items js) ItemsInOrder
  in_order-of_items json.no_items = tt
  in_order-of_items (json.item j js) =
      chained InOrder ItemsInOrder (λ d. option_map (item d) (of_items js))
      (λ d p. mapped ItemsInOrder ItemsInOrder (item d) (λ ds q. (p, q)) (of_items js) (in_order-of_items js)) (of_json j) (in_order-of_json j)

  in_order-of_members : (ms : json.Members) (found : Members) → Rise found → MembersInOrder found → IfSome (of_members ms found) (λ all. Rise all × MembersInOrder all)
  in_order-of_members json.no_members found rise order = (rise, order)
  in_order-of_members (json.member name j ms) found rise order =
      chained InOrder (λ all. Rise all × MembersInOrder all) (λ d. of_members ms (put name d found))
      (λ d p. in_order-of_members ms (put name d found) (rise-put name d found rise) (members-put name d found p order)) (of_json j) (in_order-of_json j)

any_json : (o : Option json.Json) → IfSome (option_and_then of_json o) InOrder
any_json None = tt
any_json (Some j) = in_order-of_json j

read_in_order : (text : List ℕ) → IfSome (read text) InOrder
read_in_order text = any_json (option_and_then (λ p. json.if_last p.0 p.1) (json.value max_depth (tokens text)))

text_read : (b : Bool) (o : Option Data) (d : Data) → cond b o None ≡ Some d → o ≡ Some d
text_read true o d is = is
text_read false o d is = cc

pub in_order : (line : List ℕ) (d : Data) → reading line ≡ Some d → InOrder d
unfolding reading
in_order line d is = subst (λ o. IfSome o InOrder) (text_read (is_utf8 line) (read line) d is) (read_in_order line)

either : (o : Ordering) (e d : Data) (rest : Option Data) → InOrder e → (rest ≡ Some d → InOrder d) → match_ordering o rest (Some e) rest ≡ Some d → InOrder d
either Less e d rest here there is = there is
either Equal e d rest here there is = let same : e ≡ d = cc in subst InOrder same here
either Greater e d rest here there is = there is

-- and so are those at a name
pub in_order-at : (name : List ℕ) (ms : Members) (d : Data) → MembersInOrder ms → get_member name ms ≡ Some d → InOrder d
in_order-at name no_members d order is = absurd (cc)
in_order-at name (member other e ms) d order is =
    either (slice_cmp nat_cmp name other) e d (get_member name ms) order.0 (in_order-at name ms d order.1) is

-- A value that is read of a line, and read as an image, is the JSON of the image.

below_fields : (name : List ℕ) (fields : List Field) → below_all (slice_cmp nat_cmp) name (entries_of (fields_data fields)) ≡ below_all (slice_cmp nat_cmp) name fields
below_fields name [] = refl
below_fields name (field ∷ fields) = ap (λ b. is_lt (slice_cmp nat_cmp name field.0) && b) (below_fields name fields)

sorted_fields : (fields : List Field) → is_sorted (slice_cmp nat_cmp) (entries_of (fields_data fields)) ≡ is_sorted (slice_cmp nat_cmp) fields
sorted_fields [] = refl
sorted_fields (field ∷ fields) = rw (below_fields field.0 fields, sorted_fields fields) refl

true_of : (b : Bool) → T b → b ≡ true
true_of true holds = refl
true_of false holds = absurd holds

members_in_order : (ms : Members) → InOrder (object ms) → MembersInOrder ms
members_in_order ms order = order.1

object_rises : (ms : Members) → InOrder (object ms) → Rise ms
object_rises ms order = order.0

-- the names of an image's fields rise in its JSON
pub fields_rise : (f : Option (List Field)) (rest : Members) → InOrder (object (body_data f rest)) → body_rises f ≡ true
fields_rise None rest order = refl
fields_rise (Some fields) rest order =
    let inside = in_order-at (codes "fields") (body_data (Some fields) rest) (object (fields_data fields)) (members_in_order (body_data (Some fields) rest) order) refl in
    sym (sorted_fields fields) ∙ true_of _ (object_rises (fields_data fields) inside)

-- a value in order of an image's shape is the JSON of the image
pub shape_in_order : (d : Data) (image : Image) → InOrder d → shape_in d ≡ Ok image → d ≡ image_data image
unfolding shape_in
shape_in_order d image order shape =
    let members = bind_ok (ok_or (as_object d) fault.Whole) _ image shape in
    let whole = object_from_as_object d members.0 (ok_or_ok (as_object d) fault.Whole members.0 members.1) in
    whole ∙ shape_found members.0 image (object_rises members.0 (subst InOrder whole order)) (ap shape_in (sym whole) ∙ shape)

pub named_ok : {A F G : Type 0} (name : F → G) (read : Result A F) (a : A) → fault_as name read ≡ Ok a → read ≡ Ok a
named_ok name (Ok x) a is = cc
named_ok name (Err e) a is = cc

-- and where it is read as the image, it keeps the limits
pub image_in_order : (d : Data) (image : Image) → InOrder d → image_in d ≡ Ok image → IsImage d image
unfolding image_in
image_in_order d image order is =
    let shape = bind_ok (fault_as _ (shape_in d)) _ image is in
    let fits = bind_ok (fault_as _ (ranges_in shape.0)) _ image shape.2 in
    let same : shape.0 ≡ image = cc fits.2 in
    let value = shape_in_order d image order (named_ok _ (shape_in d) shape.0 shape.1 ∙ ap Ok same) in
    let in_range : ranges_in image ≡ Ok tt = ap ranges_in (sym same) ∙ named_ok _ (ranges_in shape.0) fits.0 fits.1 in
    record { value = value; limits = image_from_ranges image in_range (fields_rise image.content.0 _ (subst InOrder value order)) }

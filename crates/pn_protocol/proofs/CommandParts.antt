-- What the members of a command are read of, and what is read of them.
use Rattle.std.proofs.Common.{◌≡◌, inl, inr, ℕ, List, [], ◌∷◌, length, map, codes, Bool, true, false, ◌&&◌, cond, Option, Some, None, option_map, Result, Ok, IsTrue, bytes_eq, refl, sym, ap, ◌∙◌, subst}
use Rattle.std.proofs.lemmas.Bool.{and_parts}
use Rattle.std.proofs.lemmas.Slice.Eq.{bytes_eq-Decides}
use Rattle.std.specs.List.{list_all}
use Rattle.std.specs.Option.{ok_or}
use Rattle.serde_json.specs.Data.{Data, null, boolean, number, string, array, object, unsigned, Items, no_items, item, Members, no_members, member}
use Rattle.serde_json.specs.Find.{get_member, as_str, as_array, as_object}
use Rattle.serde_json.specs.View.{items_of}
use Rattle.pn_json.specs.Members.{whole_number, member_as, each_in, only_named}
use Rattle.pn_join.specs.Naming.{is_name}
use Rattle.pn_record.specs.Reading.{is_image}
use Rattle.pn_record.specs.Grammar.{numbers_in, shape_in}
use Rattle.pn_record.specs.Writing.{image_data}
use Rattle.pn_record.specs.declared.records.Image.{Image}
use Rattle.pn_json.proofs.LookUps.{bind_ok, guard_ok, map_some, ok_or_ok, and_then_some, string_from_as_str, array_from_as_array, object_from_as_object, number_from_whole, Rise, same_by_name}
use Rattle.pn_record.proofs.ShapeParts.{version_from_numbers}
use Rattle.pn_scan.proofs.SameQuery.{query_found}
use Rattle.pn_scan.specs.Queries.{QueryValue, is_query}
use Rattle.pn_scan.specs.QueryReading.{shape_in as query_shape_in}
use Rattle.pn_record.specs.Sets.{Stamp}
use Rattle.pn_record.proofs.ReadImages.{shape_in_order, InOrder, ItemsInOrder, MembersInOrder, in_order-at}
use Rattle.pn_record.proofs.SameImage.{shape_again}
use Rattle.pn_stream.specs.Brokers.{DeliveryValue, are_positions}
use Rattle.pn_protocol.specs.Command.Grammar.{delivery_data, IsRequired}
use Rattle.pn_protocol.specs.Command.Meaning.{is_delivery}
use Rattle.pn_protocol.specs.Command.Lookups.{query_at}
use Rattle.pn_protocol.specs.Command.Checks.{named_alone, image_shape, batch_shape, key_shape, required_in, version_shape}
use Rattle.pn_protocol.specs.Command.Words.{word_of, word_in}
use Rattle.pn_protocol.specs.declared.command.word.CommandWord.{CommandWord}
use Rattle.pn_protocol.specs.declared.command.word.CommandWord.TheVariants.{Adopt, Copy, Deliver, Get, Lose, Marks, Notices, Read, Relayout, Scan, Tablets}
use Rattle.pn_protocol.specs.declared.refusal.MemberName.{MemberName}
use Rattle.pn_protocol.specs.declared.refusal.MemberName.TheVariants.{Do, Batches, First, Images, Stream, Version, Other}
use Rattle.pn_protocol.specs.declared.refusal.Refusal.{Refusal}
use Rattle.pn_protocol.specs.declared.refusal.Refusal.TheVariants.{BadShape}
use Rattle.pn_protocol.proofs.CommandLimits.{delivery_members, as_ok}

-- the value at a name, from what was found there
pub text_at : (member_name : MemberName) (o : Option Data) (text : List ℕ) → member_as as_str (BadShape member_name) o ≡ Ok text → o ≡ Some (string text)
text_at member_name o text is =
    let found = and_then_some o as_str text (ok_or_ok _ (BadShape member_name) text is) in
    found.1 ∙ ap Some (string_from_as_str found.0 text found.2)

pub number_at : (member_name : MemberName) (o : Option Data) (n : ℕ) → member_as whole_number (BadShape member_name) o ≡ Ok n → o ≡ Some (number (unsigned n))
number_at member_name o n is =
    let found = and_then_some o whole_number n (ok_or_ok _ (BadShape member_name) n is) in
    found.1 ∙ ap Some (number_from_whole found.0 n found.2)

pub array_at : (member_name : MemberName) (o : Option Data) (ds : Items) → member_as as_array (BadShape member_name) o ≡ Ok ds → o ≡ Some (array ds)
array_at member_name o ds is =
    let found = and_then_some o as_array ds (ok_or_ok _ (BadShape member_name) ds is) in
    found.1 ∙ ap Some (array_from_as_array found.0 ds found.2)

pub object_of : (d : Data) (e : Refusal) (ms : Members) → ok_or (as_object d) e ≡ Ok ms → d ≡ object ms
object_of d e ms is = object_from_as_object d ms (ok_or_ok (as_object d) e ms is)

-- the names of a batch's members
abbrev batch_names : List (List ℕ)
batch_names = codes "first" ∷ codes "images" ∷ codes "stream" ∷ []

pub are_named : (names : List (List ℕ)) (ms : Members) → named_alone names ms ≡ Ok tt → only_named names ms ≡ true
are_named names ms is = (guard_ok (only_named names ms) tt tt (BadShape Other) is).0

pub rises : (d : Data) (ms : Members) → d ≡ object ms → InOrder d → Rise ms
rises d ms is order = let inside : InOrder (object ms) = subst InOrder is order in inside.0

pub in_order : (d : Data) (ms : Members) → d ≡ object ms → InOrder d → MembersInOrder ms
in_order d ms is order = let inside : InOrder (object ms) = subst InOrder is order in inside.1

image_found : (d : Data) (image : Image) → InOrder d → image_shape d ≡ Ok image → d ≡ image_data image
image_found d image order is = shape_in_order d image order (as_ok _ (shape_in d) image is)

pub each_found : {A : Type 0} (kind : Data → Result A Refusal) (written : A → Data) → ((d : Data) (a : A) → InOrder d → kind d ≡ Ok a → d ≡ written a)
    → (ds : Items) (xs : List A) → ItemsInOrder ds → each_in kind ds ≡ Ok xs → ds ≡ items_of (map written xs)
each_found kind written one no_items xs order is = let none : [] ≡ xs = cc in ap (λ l. items_of (map written l)) none
each_found kind written one (item d ds) xs order is =
    let first = bind_ok (kind d) _ xs is in
    let rest = bind_ok (each_in kind ds) _ xs first.2 in
    let all : first.0 ∷ rest.0 ≡ xs = cc in
    ap (λ e. item e ds) (one d first.0 order.0 first.1) ∙ ap (item (written first.0)) (each_found kind written one ds rest.0 order.1 rest.1)
    ∙ ap (λ l. items_of (map written l)) all

pub each_again : {A : Type 0} (kind : Data → Result A Refusal) (written : A → Data) → ((a : A) → kind (written a) ≡ Ok a) → (xs : List A) → each_in kind (items_of (map written xs)) ≡ Ok xs
each_again kind written one [] = refl
each_again kind written one (x ∷ xs) = rw (one x, each_again kind written one xs) refl

-- the same of those that keep their limits
pub each_kept_again : {A : Type 0} (kind : Data → Result A Refusal) (written : A → Data) (test : A → Bool) → ((a : A) → test a ≡ true → kind (written a) ≡ Ok a)
    → (xs : List A) → list_all test xs ≡ true → each_in kind (items_of (map written xs)) ≡ Ok xs
each_kept_again kind written test one [] keeps = refl
each_kept_again kind written test one (x ∷ xs) keeps =
    let parts = and_parts (test x) (list_all test xs) keeps in
    rw (one x parts.0, each_kept_again kind written test one xs parts.1) refl

image_again : (image : Image) → is_image image ≡ true → image_shape (image_data image) ≡ Ok image
image_again image keeps = rw (shape_again image keeps) refl

pub array_in_order : (name : List ℕ) (ms : Members) (ds : Items) → MembersInOrder ms → get_member name ms ≡ Some (array ds) → ItemsInOrder ds
array_in_order name ms ds order is = in_order-at name ms (array ds) order is

-- members that say a batch
batch_named : (ms : Members) (batch : DeliveryValue) → Rise ms → only_named batch_names ms ≡ true → get_member (codes "first") ms ≡ Some (number (unsigned batch.first))
    → get_member (codes "images") ms ≡ Some (array (items_of (map image_data batch.images))) → get_member (codes "stream") ms ≡ Some (string batch.stream) → object ms ≡ delivery_data batch
batch_named ms batch rise named first images stream =
    ap object (same_by_name batch_names ms (delivery_members batch) rise tt named refl (first, (images, (stream, tt))))

pub batch_found : (d : Data) (batch : DeliveryValue) → InOrder d → batch_shape d ≡ Ok batch → d ≡ delivery_data batch
unfolding batch_shape
batch_found d batch order is =
    let members = bind_ok (ok_or (as_object d) (BadShape Batches)) _ batch is in
    let first = bind_ok (member_as whole_number (BadShape First) (get_member (codes "first") members.0)) _ batch members.2 in
    let items = bind_ok (member_as as_array (BadShape Images) (get_member (codes "images") members.0)) _ batch first.2 in
    let images = bind_ok (each_in image_shape items.0) _ batch items.2 in
    let stream = bind_ok (member_as as_str (BadShape Stream) (get_member (codes "stream") members.0)) _ batch images.2 in
    let named = bind_ok (named_alone batch_names members.0) _ batch stream.2 in
    let same : ◌≡◌ {A = DeliveryValue} (record { stream = stream.0; first = first.0; images = images.0 }) batch = cc in
    let whole : d ≡ object members.0 = object_of d (BadShape Batches) members.0 members.1 in
    let at_images : get_member (codes "images") members.0 ≡ Some (array items.0) = array_at Images _ items.0 items.1 in
    let inside = array_in_order (codes "images") members.0 items.0 (in_order d members.0 whole order) at_images in
    let found = batch_named members.0 (record { stream = stream.0; first = first.0; images = images.0 }) (rises d members.0 whole order) (are_named batch_names members.0 named.1)
    (number_at First _ first.0 first.1)
    (at_images ∙ ap (λ ds. Some (array ds)) (each_found image_shape image_data image_found items.0 images.0 inside images.1))
    (text_at Stream _ stream.0 stream.1) in
    subst (λ b. d ≡ delivery_data b) same (subst (λ e. e ≡ delivery_data (record { stream = stream.0; first = first.0; images = images.0 })) (sym whole) found)

pub batch_again : (batch : DeliveryValue) → is_delivery batch ≡ true → batch_shape (delivery_data batch) ≡ Ok batch
unfolding batch_shape
batch_again batch keeps =
    let parts = and_parts (is_name batch.stream && are_positions batch.first (length batch.images)) (list_all is_image batch.images) keeps in
    rw (each_kept_again image_shape image_data is_image image_again batch.images parts.1) refl

-- the text of a word
abbrev pub text_of : CommandWord → List ℕ
text_of Adopt = codes "adopt"
text_of Copy = codes "copy"
text_of Deliver = codes "deliver"
text_of Get = codes "get"
text_of Lose = codes "lose"
text_of Marks = codes "marks"
text_of Notices = codes "notices"
text_of Read = codes "read"
text_of Relayout = codes "relayout"
text_of Scan = codes "scan"
text_of Tablets = codes "tablets"

this_or_next : (b : Bool) (text : List ℕ) (one word : CommandWord) (next : Option CommandWord) → bytes_eq text (text_of one) ≡ b → cond b (Some one) next ≡ Some word → (next ≡ Some word → text ≡ text_of word) → text ≡ text_of word
this_or_next true text one word next is found further = let same : one ≡ word = cc in (bytes_eq-Decides text (text_of one)).0 is ∙ ap text_of same
this_or_next false text one word next is found further = further found

text_from_word : (text : List ℕ) (word : CommandWord) → word_of text ≡ Some word → text ≡ text_of word
text_from_word text word found =
    this_or_next _ text Adopt word _ refl found (λ found. this_or_next _ text Copy word _ refl found (λ found. this_or_next _ text Deliver word _ refl found (λ found.
    this_or_next _ text Get word _ refl found (λ found. this_or_next _ text Lose word _ refl found (λ found. this_or_next _ text Marks word _ refl found (λ found.
    this_or_next _ text Notices word _ refl found (λ found. this_or_next _ text Read word _ refl found (λ found. this_or_next _ text Relayout word _ refl found (λ found.
    this_or_next _ text Scan word _ refl found (λ found. this_or_next _ text Tablets word _ refl found (λ none. absurd (cc))))))))))))

pub word_at : (o : Option Data) (word : CommandWord) → member_as word_in (BadShape Do) o ≡ Ok word → o ≡ Some (string (text_of word))
word_at o word is =
    let found = and_then_some o word_in word (ok_or_ok _ (BadShape Do) word is) in
    let text = and_then_some (as_str found.0) word_of word found.2 in
    found.1 ∙ ap Some (string_from_as_str found.0 text.0 text.1 ∙ ap string (text_from_word text.0 word text.2))

pub key_found : (member_name : MemberName) (d : Data) (key : List ℕ) → InOrder d → key_shape member_name d ≡ Ok key → d ≡ string key
key_found member_name d key order is = string_from_as_str d key (ok_or_ok (as_str d) (BadShape member_name) key is)

pub key_again : (member_name : MemberName) (key : List ℕ) → key_shape member_name (string key) ≡ Ok key
key_again member_name key = refl

-- the member after a key: `version`, if it is there
abbrev pub after_key : Option Data → Members
after_key None = no_members
after_key (Some d) = member (codes "version") d no_members

numbers_required : (d : Data) (required : Option Stamp) → option_map Some (numbers_in d) ≡ Some required → IsRequired (after_key (Some d)) required
numbers_required d required is =
    let found = map_some (numbers_in d) Some required is in
    subst (λ (r : Option Stamp). IsRequired (after_key (Some d)) r) found.2 (ap (λ e. member (codes "version") e no_members) (version_from_numbers d found.0 found.1))

value_required : (d : Data) (required : Option Stamp) → required_in d ≡ Some required → IsRequired (after_key (Some d)) required
value_required null None is = inr refl
value_required null (Some version) is = absurd (cc)
value_required (boolean b) required is = numbers_required (boolean b) required is
value_required (number n) required is = numbers_required (number n) required is
value_required (string s) required is = numbers_required (string s) required is
value_required (array ds) required is = numbers_required (array ds) required is
value_required (object ms) required is = numbers_required (object ms) required is

pub version_required : (o : Option Data) (required : Option Stamp) → version_shape o ≡ Ok required → IsRequired (after_key o) required
version_required None None is = inl refl
version_required None (Some version) is = absurd (cc)
version_required (Some d) required is = value_required d required (ok_or_ok (required_in d) (BadShape Version) required is)

pub query_there : (o : Option Data) (query : QueryValue) → query_at o ≡ Ok query → (d : Data) × (o ≡ Some d) × (query_shape_in d ≡ Ok query) × IsTrue (is_query query)
query_there None query is = absurd (cc)
query_there (Some d) query is =
    let found = query_found d query is in
    (d, refl, found.0, found.1)

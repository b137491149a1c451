-- The members of a batch and of a `deliver` command.
use Rattle.std.proofs.Common.{◌≡◌, ℕ, List, [], ◌∷◌, length, codes, true, Option, Some, None, unwrap_or, option_and_then, Result, Ok, IsOk, IsTrue, refl, sym, ap, ◌∙◌}
use Rattle.std.specs.Option.{ok_or}
use Rattle.serde_json.specs.Data.{Data, null, boolean, number, string, array, object, Items, no_items, item, Members}
use Rattle.serde_json.specs.Find.{get, get_member, as_str, as_array, as_object}
use Rattle.pn_join.specs.Naming.{is_name}
use Rattle.pn_json.specs.Members.{whole_number, member_as, each_in, text_at}
use Rattle.pn_json.proofs.LookUps.{bind_ok, guard_ok, object_from_as_object, ok_or_ok}
use Rattle.pn_record.specs.Grammar.{shape_in, ranges_in, image_in}
use Rattle.pn_record.specs.declared.records.Image.{Image}
use Rattle.pn_record.proofs.ImageParts.{is_there}
use Rattle.pn_stream.specs.Brokers.{DeliveryValue, are_positions}
use Rattle.pn_protocol.specs.Command.Lines.{batch_in, deliver_at, deliver_in, number_at, items_at}
use Rattle.pn_protocol.specs.Command.Meaning.{are_few, deliver}
use Rattle.pn_protocol.specs.declared.command.ranges.TheConstants.{MAX_BATCHES}
use Rattle.pn_protocol.specs.Command.Checks.{fits, each_fits, image_fits, batch_fits, batches_fit, named_alone, image_shape, batch_shape}
use Rattle.pn_protocol.specs.Command.Words.{members_of}
use Rattle.pn_protocol.specs.declared.command.word.CommandWord.TheVariants.{Deliver}
use Rattle.pn_protocol.specs.declared.refusal.MemberName.TheVariants.{Whole, Batches, First, Images, Stream}
use Rattle.pn_protocol.specs.declared.refusal.Refusal.{Refusal}
use Rattle.pn_protocol.specs.declared.refusal.Refusal.TheVariants.{BadShape, OutOfRange}
use Rattle.pn_protocol.proofs.CommandParts.{object_of}
use Rattle.pn_protocol.proofs.CommandLimits.{both_fit, as_ok}

-- nothing is found in a value that is no object
pub nothing_in : (q : List ℕ) (d : Data) → as_object d ≡ None → get q d ≡ None
nothing_in q null is = refl
nothing_in q (boolean b) is = refl
nothing_in q (number n) is = refl
nothing_in q (string s) is = refl
nothing_in q (array ds) is = refl
nothing_in q (object ms) is = absurd (cc)

-- what is found in an object is found among its members
pub found_among : (q : List ℕ) (d : Data) (ms : Members) → as_object d ≡ Some ms → get_member q ms ≡ get q d
found_among q d ms is = ap (get q) (sym (object_from_as_object d ms is))

-- where each item has its shape and what is in it fits, each is read whole
each_whole : {A F : Type 0} (shape : Data → Result A Refusal) (check : A → Result (Unit {0}) Refusal) (whole : Data → Result A F)
    → ((d : Data) (x : A) → shape d ≡ Ok x → check x ≡ Ok tt → whole d ≡ Ok x) → (ds : Items) (xs : List A) → each_in shape ds ≡ Ok xs → each_fits check xs ≡ Ok tt → each_in whole ds ≡ Ok xs
each_whole shape check whole one no_items xs is fit = cc is
each_whole shape check whole one (item d ds) xs is fit =
    let first = bind_ok (shape d) _ xs is in
    let rest = bind_ok (each_in shape ds) _ xs first.2 in
    let all : first.0 ∷ rest.0 ≡ xs = cc rest.2 in
    let both = both_fit (check first.0) (each_fits check rest.0) (ap (each_fits check) all ∙ fit) in
    rw (one d first.0 first.1 both.0, each_whole shape check whole one ds rest.0 rest.1 both.1) (ap Ok all)

-- an image of the right shape, in its ranges
image_whole : (d : Data) (image : Image) → image_shape d ≡ Ok image → image_fits image ≡ Ok tt → image_in d ≡ Ok image
unfolding image_in
image_whole d image shape fit = rw (as_ok _ (shape_in d) image shape, as_ok _ (ranges_in image) tt fit) refl

-- the members of a batch
pub record IsOfParts (d : Data) : Type 0 where
  pub images : List Image
  pub read : each_in image_in (items_at (get (codes "images") d)) ≡ Ok images
  pub positions : IsTrue (are_positions (number_at (get (codes "first") d)) (length images))
  pub stream : IsTrue (is_name (text_at (get (codes "stream") d)))
  pub batch : batch_in d ≡ Ok (record { stream = text_at (get (codes "stream") d); first = number_at (get (codes "first") d); images = images })

number_found : (o : Option Data) (e : Refusal) (n : ℕ) → member_as whole_number e o ≡ Ok n → number_at o ≡ n
number_found o e n is = ap (λ found. unwrap_or found 0) (ok_or_ok (option_and_then whole_number o) e n is)

items_found : (o : Option Data) (e : Refusal) (ds : Items) → member_as as_array e o ≡ Ok ds → items_at o ≡ ds
items_found o e ds is = ap (λ found. unwrap_or found no_items) (ok_or_ok (option_and_then as_array o) e ds is)

text_found : (o : Option Data) (e : Refusal) (text : List ℕ) → member_as as_str e o ≡ Ok text → text_at o ≡ text
text_found o e text is = ap (λ found. unwrap_or found []) (ok_or_ok (option_and_then as_str o) e text is)

made : (batch : DeliveryValue) (stream : List ℕ) (first : ℕ) → stream ≡ batch.stream → first ≡ batch.first → batch ≡ record { stream = stream; first = first; images = batch.images }
made batch stream first named at = rw (named, at) refl

members_same : (stream : List ℕ) (first : ℕ) (images : List Image) (batch : DeliveryValue) → ◌≡◌ {A = Result DeliveryValue Refusal} (Ok (record { stream = stream; first = first; images = images })) (Ok batch)
    → (stream ≡ batch.stream) × (first ≡ batch.first) × (images ≡ batch.images)
members_same stream first images batch is =
    let same : ◌≡◌ {A = DeliveryValue} (record { stream = stream; first = first; images = images }) batch = cc is in
    (ap (λ (b : DeliveryValue). b.stream) same, ap (λ (b : DeliveryValue). b.first) same, ap (λ (b : DeliveryValue). b.images) same)

batch_parts : (d : Data) (batch : DeliveryValue) → batch_shape d ≡ Ok batch → batch_fits batch ≡ Ok tt → batch_in d ≡ Ok batch → IsOfParts d
unfolding batch_shape batch_fits
batch_parts d batch shape fit is =
    let members = bind_ok (ok_or (as_object d) (BadShape Batches)) _ batch shape in
    let first = bind_ok (member_as whole_number (BadShape First) (get_member (codes "first") members.0)) _ batch members.2 in
    let items = bind_ok (member_as as_array (BadShape Images) (get_member (codes "images") members.0)) _ batch first.2 in
    let images = bind_ok (each_in image_shape items.0) _ batch items.2 in
    let stream = bind_ok (member_as as_str (BadShape Stream) (get_member (codes "stream") members.0)) _ batch images.2 in
    let named = bind_ok (named_alone (codes "first" ∷ codes "images" ∷ codes "stream" ∷ []) members.0) _ batch stream.2 in
    let whole : d ≡ object members.0 = object_of d (BadShape Batches) members.0 members.1 in
    let same = members_same stream.0 first.0 images.0 batch named.2 in
    let at_first : number_at (get (codes "first") d) ≡ batch.first = ap (λ e. number_at (get (codes "first") e)) whole ∙ number_found _ (BadShape First) first.0 first.1 ∙ same.1 in
    let at_stream : text_at (get (codes "stream") d) ≡ batch.stream = ap (λ e. text_at (get (codes "stream") e)) whole ∙ text_found _ (BadShape Stream) stream.0 stream.1 ∙ same.0 in
    let array : items_at (get (codes "images") d) ≡ items.0 = ap (λ e. items_at (get (codes "images") e)) whole ∙ items_found _ (BadShape Images) items.0 items.1 in
    let positions = both_fit (fits First (are_positions batch.first (length batch.images))) _ fit in
    let each = both_fit (each_fits image_fits batch.images) _ positions.1 in
    let shapes : each_in image_shape items.0 ≡ Ok batch.images = images.1 ∙ ap Ok same.2 in
    let placed : are_positions batch.first (length batch.images) ≡ true = (guard_ok _ tt tt (OutOfRange First) positions.0).0 in
    let written : is_name batch.stream ≡ true = (guard_ok _ tt tt (OutOfRange Stream) each.1).0 in
    record {
      images = batch.images;
      read = ap (each_in image_in) array ∙ each_whole image_shape image_fits image_in image_whole items.0 batch.images shapes each.0;
      positions = ap (λ n. are_positions n (length batch.images)) at_first ∙ placed;
      stream = ap is_name at_stream ∙ written;
      batch = is ∙ ap Ok (made batch _ _ at_stream at_first);
    }

parts_in : (d : Data) (batch : DeliveryValue) → batch_in d ≡ Ok batch → IsOfParts d
parts_in d batch is =
    let shape = bind_ok (batch_shape d) _ batch is in
    let fit = bind_ok (batch_fits shape.0) _ batch shape.2 in
    let same : shape.0 ≡ batch = cc fit.2 in
    batch_parts d shape.0 shape.1 fit.1 (is ∙ ap Ok (sym same))

-- a value that is a batch is that of its parts
pub parts_found : (d : Data) → IsOk (batch_in d) → IsOfParts d
parts_found d found = let batch = is_there (batch_in d) found in parts_in d batch.0 batch.1

-- the images of a batch that were read are those of the parts
images_found : (d : Data) (found : IsOk (batch_in d)) (images : List Image) → each_in image_in (items_at (get (codes "images") d)) ≡ Ok images → (parts_found d found).images ≡ images
images_found d found images is = let read = (parts_found d found).read in cc (read, is)

-- the images that were read have positions
pub positions_found : (d : Data) → IsOk (batch_in d) → (first : ℕ) (images : List Image) → first ≡ number_at (get (codes "first") d) → each_in image_in (items_at (get (codes "images") d)) ≡ Ok images
    → IsTrue (are_positions first (length images))
positions_found d found first images at is =
    let parts = parts_found d found in
    ap (λ n. are_positions n (length images)) at ∙ ap (λ (l : List Image). are_positions (number_at (get (codes "first") d)) (length l)) (sym (images_found d found images is)) ∙ parts.positions

-- a delivery of the parts is the batch
pub batch_found : (d : Data) → IsOk (batch_in d) → (batch : DeliveryValue) → batch.stream ≡ text_at (get (codes "stream") d) → batch.first ≡ number_at (get (codes "first") d)
    → each_in image_in (items_at (get (codes "images") d)) ≡ Ok batch.images → batch_in d ≡ Ok batch
batch_found d found batch named at is =
    let parts = parts_found d found in
    let same = images_found d found batch.images is in
    let whole : ◌≡◌ {A = DeliveryValue} (record { stream = text_at (get (codes "stream") d); first = number_at (get (codes "first") d); images = parts.images }) batch = rw (sym named, sym at, same) refl in
    parts.batch ∙ ap Ok whole

batch_whole : (d : Data) (batch : DeliveryValue) → batch_shape d ≡ Ok batch → batch_fits batch ≡ Ok tt → batch_in d ≡ Ok batch
batch_whole d batch shape fit = rw (shape, fit) refl

-- the batches of a `deliver` command, each in its ranges
pub deliver_found : (d : Data) (batches : List DeliveryValue) → deliver_at d ≡ Ok (deliver batches) → each_in batch_in (items_at (get (codes "batches") d)) ≡ Ok batches
unfolding deliver_at deliver_in batches_fit
deliver_found d batches is =
    let members = bind_ok (ok_or (as_object d) (BadShape Whole)) _ (deliver batches) is in
    let items = bind_ok (member_as as_array (BadShape Batches) (get_member (codes "batches") members.0)) _ (deliver batches) members.2 in
    let found = bind_ok (each_in batch_shape items.0) _ (deliver batches) items.2 in
    let named = bind_ok (named_alone (members_of Deliver) members.0) _ (deliver batches) found.2 in
    let fit = bind_ok (batches_fit found.0) _ (deliver batches) named.2 in
    let same : found.0 ≡ batches = cc fit.2 in
    let each = both_fit (fits Batches (are_few MAX_BATCHES found.0)) _ fit.1 in
    let whole : d ≡ object members.0 = object_of d (BadShape Whole) members.0 members.1 in
    ap (λ e. each_in batch_in (items_at (get (codes "batches") e))) whole
    ∙ ap (each_in batch_in) (items_found _ (BadShape Batches) items.0 items.1)
    ∙ each_whole batch_shape batch_fits batch_in batch_whole items.0 found.0 found.1 each.1
    ∙ ap Ok same

-- A value that has the shape of a message is the JSON of that message, and that JSON has its shape.
use Rattle.std.proofs.Common.{◌≡◌, ℕ, List, codes, true, false, Some, None, option_and_then, Result, Ok, Err, IfOk, IsOk, String, Global, string_cmp, bytes_eq, refl, sym, ap, ◌∙◌}
use Rattle.std.specs.List.{list_any}
use Rattle.std.specs.List.Sorted.{IsStrictlySortedBy}
use Rattle.std.specs.Map.{keys_of}
use Rattle.serde_json.specs.Data.{Data, number, unsigned, object, Members, no_members, member}
use Rattle.serde_json.specs.Find.{get, get_member, as_object}
use Rattle.serde_json.specs.View.{members_view}
use Rattle.serde_json.specs.declared.value.Value.{Value}
use Rattle.pn_record.specs.Reading.{is_image, body_rises}
use Rattle.pn_join.specs.Marks.{is_position}
use Rattle.std.specs.Option.{ok_or}
use Rattle.pn_json.specs.Answers.{fault_as}
use Rattle.pn_json.specs.Members.{whole_number, member_as, only_named, no_others}
use Rattle.pn_record.specs.Grammar.{shape_in as image_shape_in, ranges_in as image_ranges_in, image_in}
use Rattle.pn_record.specs.declared.fault.Member.TheVariants as fault
use Rattle.pn_record.specs.declared.records.Image.{Image}
use Rattle.pn_record.specs.Writing.{image_data}
use Rattle.pn_json.proofs.LookUps.{bind_ok, ok_or_ok, passed, and_then_some, object_from_as_object, number_from_whole, Rise, Rise-map, get_member-unnamed, same_members, or_elsewhere}
use Rattle.pn_record.proofs.ImageLines.{line_again, line_unique}
use Rattle.pn_record.proofs.SameImage.{in_ranges, image_from_ranges, shape_again}
use Rattle.pn_record.proofs.ImageParts.{is_there}
use Rattle.pn_record.proofs.ReadImages.{named_ok}
use Rattle.pn_stream.specs.Messages.{Message, message_members, shape_in, ranges_in, message_in, message_at, message_data, IsMessage, IsMessageLine}

-- the members of a message's JSON
abbrev members_of : Data → Data → Members
members_of at image = member (codes "at") at (member (codes "image") image no_members)

-- members of these two names alone, that rise, are the two
two_members : (ms : Members) (at image : Data) → Rise ms → only_named message_members ms ≡ true → get_member (codes "at") ms ≡ Some at → get_member (codes "image") ms ≡ Some image → ms ≡ members_of at image
two_members ms at image rise named is_at is_image =
    same_members ms (members_of at image) rise tt (λ q.
    or_elsewhere q (codes "at") ms (members_of at image) _ is_at refl (λ a.
    or_elsewhere q (codes "image") ms (members_of at image) _ is_image refl (λ i.
    let apart : list_any (bytes_eq q) message_members ≡ false = rw (a, i) refl in
    get_member-unnamed message_members ms q named apart ∙ sym (get_member-unnamed message_members (members_of at image) q refl apart))))

-- a value whose members are these is the JSON of the message
pub message_found : (d : Data) (entries : List (String Global × Value)) (value : Data) (message : Message) → Some (members_view entries) ≡ as_object d → IsStrictlySortedBy string_cmp (keys_of entries)
    → only_named message_members (members_view entries) ≡ true → option_and_then whole_number (get (codes "at") d) ≡ Some message.0
    → get (codes "image") d ≡ Some value → value ≡ image_data message.1 → d ≡ message_data message
message_found d entries value message members ordered named at image is =
    let ms = members_view entries in
    let whole : d ≡ object ms = object_from_as_object d ms (sym members) in
    let found = and_then_some (get (codes "at") d) whole_number message.0 at in
    let is_at : get_member (codes "at") ms ≡ Some (number (unsigned message.0)) = ap (get (codes "at")) (sym whole) ∙ found.1 ∙ ap Some (number_from_whole found.0 message.0 found.2) in
    let is_image : get_member (codes "image") ms ≡ Some (image_data message.1) = ap (get (codes "image")) (sym whole) ∙ image ∙ ap Some is in
    whole ∙ ap object (two_members ms (number (unsigned message.0)) (image_data message.1) (Rise-map entries ordered) named is_at is_image)

-- the JSON of a message whose image keeps its limits has its shape
shape_again_of : (at : ℕ) (message : Message) → is_image message.1 ≡ true → shape_in (message_data message) ≡ Ok message
unfolding shape_in
shape_again_of at message keeps = rw (shape_again message.1 keeps) refl

-- a message whose shape breaks no range
pub message_fits : (d : Data) (message : Message) → d ≡ message_data message → body_rises message.1.content.0 ≡ true → ranges_in message ≡ Ok tt → IsMessage d message
unfolding ranges_in
message_fits d message is rise fits =
    let parts = passed (is_position message.0) _ _ tt fits in
    record { value = is; position = parts.0; limits = image_from_ranges message.1 parts.1 rise }

-- nor does its image
pub image_fits : (message : Message) → ranges_in message ≡ Ok tt → image_ranges_in message.1 ≡ Ok tt
unfolding ranges_in
image_fits message fits = (passed (is_position message.0) _ _ tt fits).1

-- where in a message its image is
image_in_shape : (d : Data) (message : Message) → shape_in d ≡ Ok message → (value : Data) × (get (codes "image") d ≡ Some value) × (image_shape_in value ≡ Ok message.1)
unfolding shape_in
image_in_shape d message is =
    let members = bind_ok (ok_or (as_object d) fault.Whole) _ message is in
    let at = bind_ok (member_as whole_number fault.At (get (codes "at") d)) _ message members.2 in
    let value = bind_ok (ok_or (get (codes "image") d) fault.Image) _ message at.2 in
    let image = bind_ok (image_shape_in value.0) _ message value.2 in
    let named = bind_ok (no_others message_members fault.Other members.0) _ message image.2 in
    let whole : (at.0, image.0) ≡ message = cc named.2 in
    (value.0, ok_or_ok _ fault.Image value.0 value.1, image.1 ∙ ap (λ (m : Message). Ok m.1) whole)

image_of : (d : Data) (message : Message) → message_in d ≡ Ok message → (value : Data) × (get (codes "image") d ≡ Some value) × (image_in value ≡ Ok message.1)
unfolding message_in image_in
image_of d message is =
    let shape = bind_ok (fault_as _ (shape_in d)) _ message is in
    let fits = bind_ok (fault_as _ (ranges_in shape.0)) _ message shape.2 in
    let whole : shape.0 ≡ message = cc fits.2 in
    let value = image_in_shape d shape.0 (named_ok _ (shape_in d) shape.0 shape.1) in
    let in_range : image_ranges_in shape.0.1 ≡ Ok tt = image_fits shape.0 (named_ok _ (ranges_in shape.0) tt fits.1) in
    (value.0, value.1, rw (value.2, in_range) (ap (λ (m : Message). Ok m.1) whole))

-- the value at `image` of a message is its image
pub image_within : (d value : Data) → IsOk (message_in d) → get (codes "image") d ≡ Some value → (message : Message) × (message_in d ≡ Ok message) × (image_in value ≡ Ok message.1)
image_within d value found at =
    let message = is_there (message_in d) found in
    let inside = image_of d message.0 message.1 in
    let same : value ≡ inside.0 = cc (at, inside.1) in
    (message.0, message.1, ap image_in same ∙ inside.2)

-- and there is one
pub image_there : (d : Data) → IsOk (message_in d) → get (codes "image") d ≡ None → ⊥
image_there d found none =
    let message = is_there (message_in d) found in
    let inside = image_of d message.0 message.1 in
    cc (none, inside.1)

-- what is read of that value is the message's image
pub image_moved : {F : Type 0} (d value : Data) (answer : Result Image F) → IsOk (message_in d) → get (codes "image") d ≡ Some value → IfOk answer (λ image. image_in value ≡ Ok image)
    → IfOk answer (λ image. IfOk (message_in d) (λ message. image ≡ message.1))
image_moved d value (Err fault) found at right = tt
image_moved d value (Ok image) found at right =
    let inside = image_within d value found at in
    let same : image ≡ inside.0.1 = cc (right, inside.2) in
    rw inside.1 same

-- a message's value is read as the message
pub message_again : (d : Data) (message : Message) → IsMessage d message → message_in d ≡ Ok message
unfolding message_in ranges_in
message_again d message is = rw (is.value, shape_again_of message.0 message is.limits, is.position, in_ranges message.1 is.limits) refl

-- a message's line is read as the message
pub message_line_again : (line : List ℕ) (message : Message) → IsMessageLine line message → message_at line ≡ Ok message
unfolding message_at
message_line_again line message is = line_again IsMessage message_in message_again line message is

-- no line is the line of two messages
pub message_line_unique : (line : List ℕ) (one other : Message) → IsMessageLine line one → IsMessageLine line other → one ≡ other
message_line_unique = line_unique IsMessage message_in message_again

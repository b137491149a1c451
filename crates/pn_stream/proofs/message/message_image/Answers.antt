-- What is moved out of a message is its image.
use Rattle.std.proofs.Common.{◌≡◌, codes, Some, None, refl, rules}
use Rattle.serde_json.specs.Find.{get}
use Rattle.serde_json.specs.View.{view}
use Rattle.pn_stream.proofs.SameMessage.{image_within, image_there, image_moved}
use Rattle.pn_stream.proofs.message.message_image.Goals as goal

pub image_from-requires : goal.image_from-requires
image_from-requires c =
    let at : get (codes "image") (view c.args.value) ≡ Some (view c.in-Some.image) = search rules in
    let inside = image_within (view c.args.value) (view c.in-Some.image) c.requires at in
    rw inside.2 refl

pub unreachable-requires : goal.unreachable-requires
unreachable-requires c =
    let none : get (codes "image") (view c.args.value) ≡ None = search rules in
    image_there (view c.args.value) c.requires none

pub returns : goal.returns
returns c =
    let at : get (codes "image") (view c.args.value) ≡ Some (view c.in-Some.image) = search rules in
    image_moved (view c.args.value) (view c.in-Some.image) c.image_from.result c.requires at c.image_from.ensures

-- The shape that was found is that of the message whose JSON the value is.
use Rattle.std.proofs.Common.{◌≡◌, codes, option_and_then, Some, true, rules}
use Rattle.serde_json.specs.Find.{get, as_object}
use Rattle.serde_json.specs.View.{view, members_view}
use Rattle.pn_json.specs.Members.{whole_number, only_named}
use Rattle.pn_stream.specs.Messages.{message_members}
use Rattle.pn_stream.proofs.SameMessage.{message_found}
use Rattle.pn_stream.proofs.message.message_shape.Goals as goal

pub returns-clause-found : goal.returns-clause-found
returns-clause-found c =
    let entries = c.in_ok-members.members.now.entries in
    let members : Some (members_view c.in_ok-members.members.now.entries) ≡ as_object (view c.args.value.now) = search rules in
    let named : only_named message_members (members_view c.in_ok-members.members.now.entries) ≡ true = search rules in
    let at : option_and_then whole_number (get (codes "at") (view c.args.value.now)) ≡ Some c.in_ok-at.at = search rules in
    let image : get (codes "image") (view c.args.value.now) ≡ Some (view c.in_ok-image.image.now) = search rules in
    message_found (view c.args.value.now) entries (view c.in_ok-image.image.now) (c.in_ok-at.at, c.in_ok-shape.shape) members c.check_names.ensures.ordered named at image c.in_ok-shape.ensures.found

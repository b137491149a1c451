-- The shape that was found is that of the image whose JSON the value is.
use Rattle.std.proofs.Common.{◌≡◌, Some, Ok, rules}
use Rattle.serde_json.specs.Find.{as_object}
use Rattle.serde_json.specs.View.{view, members_view}
use Rattle.pn_record.specs.Grammar.{shape_in}
use Rattle.pn_record.specs.Reading.{seen_fields}
use Rattle.pn_record.specs.declared.records.Image.{Image}
use Rattle.pn_record.proofs.SameImage.{shape_found_in}
use Rattle.pn_record.proofs.as_json.unchecked.unchecked_image.Goals as goal

pub returns-clause-found : goal.returns-clause-found
unfolding shape_in
returns-clause-found c =
    let image : Image = record { key = c.in_ok-key.key.now; version = c.in_ok-version.version; content = (seen_fields c.in_ok-fields.fields, c.in_ok-master.master.now) } in
    let exact : shape_in (view c.args.value.now) ≡ Ok image = search rules in
    let members : Some (members_view c.in_ok-members.members.now.entries) ≡ as_object (view c.args.value.now) = search rules in
    shape_found_in (view c.args.value.now) c.in_ok-members.members.now.entries image members c.parts_of-parts.ensures.ordered exact

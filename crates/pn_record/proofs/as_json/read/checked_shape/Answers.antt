-- A shape that breaks no range is that of an image, whose JSON the value is.
use Rattle.std.proofs.Common.{◌≡◌, true, Ok, rules}
use Rattle.serde_json.specs.View.{view}
use Rattle.pn_record.specs.Grammar.{ranges_in}
use Rattle.pn_record.specs.Reading.{body_rises}
use Rattle.pn_record.specs.Writing.{image_data}
use Rattle.pn_record.specs.declared.records.Image.{Image}
use Rattle.pn_record.proofs.SameImage.{image_from_ranges}
use Rattle.pn_record.proofs.as_json.read.checked_shape.Goals as goal

pub returns-clause-found : goal.returns-clause-found
returns-clause-found c =
    let image : Image = c.in_ok-shape.shape in
    let value : view c.args.value.now ≡ image_data image = search rules in
    let rising : body_rises image.content.0 ≡ true = search rules in
    let fits : ranges_in image ≡ Ok tt = search rules in
    record { value = value; limits = image_from_ranges image fits rising }

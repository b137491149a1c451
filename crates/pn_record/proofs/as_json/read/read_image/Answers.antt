-- The image of the value that was read is that of the line.
use Rattle.pn_json.proofs.LookUps.{right_same}
use Rattle.pn_record.specs.Reading.{IsImage, image_at}
use Rattle.pn_record.specs.Grammar.{image_in}
use Rattle.pn_record.proofs.ImageLines.{found_in_line, right_of_line, long_by_reading, image_line_again}
use Rattle.pn_record.proofs.as_json.read.read_image.Goals as goal

pub returns-clause-found : goal.returns-clause-found
returns-clause-found c = found_in_line IsImage image_in _ _ _ c.read_value.ensures.exact c.image_read.ensures.found c.image_read.ensures.unread

pub returns-clause-exact : goal.returns-clause-exact
unfolding image_at
returns-clause-exact c = right_of_line IsImage image_in _ _ _ c.read_value.ensures.exact c.image_read.ensures.exact c.image_read.ensures.unread

pub returns-clause-only : goal.returns-clause-only
returns-clause-only c = λ image is. right_same _ _ _ _ _ (returns-clause-exact c) (image_line_again _ image is)

pub returns-clause-too_long : goal.returns-clause-too_long
returns-clause-too_long c = long_by_reading IsImage image_in c.args.line.now _ _ _ c.read_value.ensures.too_long c.image_read.ensures.faults c.image_read.ensures.unread

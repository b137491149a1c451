use Rattle.pn_record.specs.Reading.{IsImage}
use Rattle.pn_record.specs.Grammar.{image_in}
use Rattle.pn_record.proofs.ImageLines.{line_unique}
use Rattle.pn_record.proofs.SameImage.{image_again}
use Rattle.pn_record.proofs.laws.a_line_is_one_image.Goals as goal

pub returns : goal.returns
returns c = line_unique IsImage image_in image_again

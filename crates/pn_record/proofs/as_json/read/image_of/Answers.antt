use Rattle.pn_json.proofs.LookUps.{right_same}
use Rattle.pn_record.proofs.SameImage.{image_again}
use Rattle.pn_record.proofs.as_json.read.image_of.Goals as goal

pub returns-clause-only : goal.returns-clause-only
returns-clause-only c = λ image is. right_same _ _ _ _ _ c.image_with_copies.ensures.exact (image_again _ image is)

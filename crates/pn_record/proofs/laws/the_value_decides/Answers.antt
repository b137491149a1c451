use Rattle.pn_record.proofs.ImageLines.{image_at-value_at}
use Rattle.pn_record.proofs.laws.the_value_decides.Goals as goal

pub returns : goal.returns
returns c = image_at-value_at

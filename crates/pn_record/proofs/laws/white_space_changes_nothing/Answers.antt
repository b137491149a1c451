use Rattle.pn_record.proofs.ImageLines.{image_at-value_at, value_at-tokens}
use Rattle.pn_record.proofs.laws.white_space_changes_nothing.Goals as goal

pub returns : goal.returns
returns c =
    λ one other short_one short_other text_one text_other same. image_at-value_at one other (value_at-tokens one other short_one short_other text_one text_other same)

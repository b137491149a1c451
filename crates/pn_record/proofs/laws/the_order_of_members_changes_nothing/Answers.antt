use Rattle.pn_record.proofs.ImageLines.{image_at-value_at}
use Rattle.pn_record.proofs.Reordering.{value_at-reordered}
use Rattle.pn_record.proofs.laws.the_order_of_members_changes_nothing.Goals as goal

pub returns : goal.returns
returns c =
    λ one other value moved first second same. image_at-value_at one other (value_at-reordered one other value moved first second same)

-- The law is a lemma.
use Rattle.pn_apply.proofs.ReduceLaws.{range_joins}
use Rattle.pn_apply.proofs.laws.a_range_joins_the_images_in_it.Goals as goal

pub returns : goal.returns
returns c = range_joins

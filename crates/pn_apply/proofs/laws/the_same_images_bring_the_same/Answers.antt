-- The law is a lemma.
use Rattle.pn_apply.specs.Reducing.{all_images}
use Rattle.pn_apply.proofs.ReduceLaws.{same_joins}
use Rattle.pn_apply.proofs.laws.the_same_images_bring_the_same.Goals as goal

pub returns : goal.returns
returns c = λ bounds marks deliveries others same. same_joins bounds marks (all_images deliveries) (all_images others) same

-- The laws are lemmas.
use Rattle.pn_region.proofs.TakenImages.{round_takes, round_surely_takes, round_may_take}
use Rattle.pn_region.proofs.laws.a_round_takes_its_images.Goals as goal

pub returns-clause-images : goal.returns-clause-images
returns-clause-images c = round_takes

pub returns-clause-surely : goal.returns-clause-surely
returns-clause-surely c = round_surely_takes

pub returns-clause-perhaps : goal.returns-clause-perhaps
returns-clause-perhaps c = round_may_take

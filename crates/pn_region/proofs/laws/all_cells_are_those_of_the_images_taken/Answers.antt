-- The laws are lemmas.
use Rattle.pn_region.proofs.TakenImages.{together, surely_together}
use Rattle.pn_region.proofs.laws.all_cells_are_those_of_the_images_taken.Goals as goal

pub returns-clause-images : goal.returns-clause-images
returns-clause-images c = together

pub returns-clause-surely : goal.returns-clause-surely
returns-clause-surely c = surely_together

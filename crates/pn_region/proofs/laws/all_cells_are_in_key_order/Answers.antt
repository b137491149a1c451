-- The laws are lemmas.
use Rattle.pn_region.proofs.TakenImages.{all_rising, all_spelled}
use Rattle.pn_region.proofs.laws.all_cells_are_in_key_order.Goals as goal

pub returns-clause-rising : goal.returns-clause-rising
returns-clause-rising c = all_rising

pub returns-clause-spelled : goal.returns-clause-spelled
returns-clause-spelled c = all_spelled

-- The laws are lemmas.
use Rattle.pn_region.proofs.Standing.{has_tablet, has_its_cell}
use Rattle.pn_region.proofs.laws.the_tablet_of_a_key_has_its_cell.Goals as goal

pub returns-clause-there : goal.returns-clause-there
returns-clause-there c = has_tablet

pub returns-clause-cell : goal.returns-clause-cell
returns-clause-cell c = has_its_cell

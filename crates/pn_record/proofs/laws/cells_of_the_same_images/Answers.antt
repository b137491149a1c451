-- The law is a lemma.
use Rattle.pn_record.proofs.CellLists.{cells-same}
use Rattle.pn_record.proofs.laws.cells_of_the_same_images.Goals as goal

pub returns : goal.returns
returns c = cells-same

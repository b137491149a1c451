-- The law is a lemma.
use Rattle.pn_record.proofs.CellLists.{cells-append}
use Rattle.pn_record.proofs.laws.cells_of_both_lists.Goals as goal

pub returns : goal.returns
returns c = cells-append

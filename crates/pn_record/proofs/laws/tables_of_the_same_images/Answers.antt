-- The law is a lemma.
use Rattle.pn_record.proofs.CellLists.{same_tables}
use Rattle.pn_record.proofs.laws.tables_of_the_same_images.Goals as goal

pub returns : goal.returns
returns c = same_tables

-- The law is a lemma.
use Rattle.pn_record.proofs.CellLists.{top_greatest}
use Rattle.pn_record.proofs.laws.top_is_greatest.Goals as goal

pub returns : goal.returns
returns c = top_greatest

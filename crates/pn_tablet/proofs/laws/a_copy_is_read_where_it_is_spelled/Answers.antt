use Rattle.pn_tablet.proofs.CopyTextFacts.{text_again, text_found}
use Rattle.pn_tablet.proofs.laws.a_copy_is_read_where_it_is_spelled.Goals as goal

pub returns : goal.returns
returns c = λ text copy. (text_again text copy, text_found text copy)

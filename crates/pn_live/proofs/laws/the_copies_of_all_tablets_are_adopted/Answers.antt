-- The law is a lemma.
use Rattle.pn_live.proofs.Adopting.{all_adopted}
use Rattle.pn_live.proofs.laws.the_copies_of_all_tablets_are_adopted.Goals as goal

pub returns : goal.returns
returns c = all_adopted

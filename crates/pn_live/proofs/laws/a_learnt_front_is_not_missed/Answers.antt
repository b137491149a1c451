-- The law is a lemma.
use Rattle.pn_live.proofs.ListLaws.{not_missed}
use Rattle.pn_live.proofs.laws.a_learnt_front_is_not_missed.Goals as goal

pub returns : goal.returns
returns c = not_missed

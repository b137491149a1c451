-- The law is a lemma.
use Rattle.pn_live.proofs.HonestLists.{not_missed_across}
use Rattle.pn_live.proofs.laws.a_learnt_front_is_not_missed_across_losses.Goals as goal

pub returns : goal.returns
returns c = not_missed_across

-- The law is a lemma.
use Rattle.pn_live.proofs.HonestLists.{never_back_across}
use Rattle.pn_live.proofs.laws.answers_never_go_back_across_losses.Goals as goal

pub returns : goal.returns
returns c = never_back_across

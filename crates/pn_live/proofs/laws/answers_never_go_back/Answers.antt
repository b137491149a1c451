-- The law is a lemma.
use Rattle.pn_live.proofs.ListLaws.{never_back}
use Rattle.pn_live.proofs.laws.answers_never_go_back.Goals as goal

pub returns : goal.returns
returns c = never_back

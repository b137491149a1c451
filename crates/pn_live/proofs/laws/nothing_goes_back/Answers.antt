-- The law is a lemma.
use Rattle.pn_live.proofs.ListLaws.{goes_on_holding}
use Rattle.pn_live.proofs.laws.nothing_goes_back.Goals as goal

pub returns : goal.returns
returns c = goes_on_holding

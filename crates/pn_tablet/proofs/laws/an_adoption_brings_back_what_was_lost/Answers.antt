-- The law is a lemma.
use Rattle.pn_tablet.proofs.TabletLaws.{adoption_brings_back}
use Rattle.pn_tablet.proofs.laws.an_adoption_brings_back_what_was_lost.Goals as goal

pub returns : goal.returns
returns c = adoption_brings_back

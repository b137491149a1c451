-- The law is a lemma.
use Rattle.pn_tablet.proofs.JoinLaws.{joins_commute as commuting}
use Rattle.pn_tablet.proofs.laws.joins_commute.Goals as goal

pub returns : goal.returns
returns c = commuting

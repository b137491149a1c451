-- The law is a lemma.
use Rattle.pn_live.proofs.ListLaws.{joined_is_held}
use Rattle.pn_live.proofs.laws.what_was_joined_is_there.Goals as goal

pub returns : goal.returns
returns c = joined_is_held

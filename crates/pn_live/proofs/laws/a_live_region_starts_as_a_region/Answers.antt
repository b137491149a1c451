-- The law is a lemma.
use Rattle.pn_live.proofs.Events.{starts_from}
use Rattle.pn_live.proofs.laws.a_live_region_starts_as_a_region.Goals as goal

pub returns : goal.returns
returns c = starts_from

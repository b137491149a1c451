-- The laws are lemmas.
use Rattle.pn_tablet.proofs.TabletLaws.{never_falls, reach_never_falls}
use Rattle.pn_tablet.proofs.laws.cover_never_falls.Goals as goal

pub returns-clause-cover : goal.returns-clause-cover
returns-clause-cover c = never_falls

pub returns-clause-reach : goal.returns-clause-reach
returns-clause-reach c = reach_never_falls

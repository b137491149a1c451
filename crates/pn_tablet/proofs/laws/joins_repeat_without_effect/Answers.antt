-- The law is two lemmas.
use Rattle.pn_tablet.proofs.JoinLaws.{joins_repeat, later_join_alone}
use Rattle.pn_tablet.proofs.laws.joins_repeat_without_effect.Goals as goal

pub returns-clause-later : goal.returns-clause-later
returns-clause-later c = later_join_alone

pub returns-clause-same : goal.returns-clause-same
returns-clause-same c = joins_repeat

-- The laws are lemmas.
use Rattle.pn_tablet.proofs.TabletLaws.{never_older, never_older_served}
use Rattle.pn_tablet.proofs.laws.nothing_but_a_loss_goes_back.Goals as goal

pub returns-clause-kept : goal.returns-clause-kept
returns-clause-kept c = never_older

pub returns-clause-served : goal.returns-clause-served
returns-clause-served c = never_older_served

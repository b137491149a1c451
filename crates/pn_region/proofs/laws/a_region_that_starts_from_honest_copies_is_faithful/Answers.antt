-- The laws are lemmas.
use Rattle.pn_region.proofs.Starting.{started_serves, started_covers, later_faithful}
use Rattle.pn_region.proofs.laws.a_region_that_starts_from_honest_copies_is_faithful.Goals as goal

pub returns-clause-serves : goal.returns-clause-serves
returns-clause-serves c = started_serves

pub returns-clause-covers : goal.returns-clause-covers
returns-clause-covers c = λ copies bounds events started region starts lead. started_covers copies bounds started starts events region lead

pub returns-clause-faithful : goal.returns-clause-faithful
returns-clause-faithful c = later_faithful

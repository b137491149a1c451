-- The laws are lemmas.
use Rattle.pn_region.proofs.FaithfulEvents.{lost_faithful, adopted_faithful, serving_has_all, given_is_honest}
use Rattle.pn_region.proofs.laws.honest_copies_keep_tablets_faithful.Goals as goal

pub returns-clause-lost : goal.returns-clause-lost
returns-clause-lost c = lost_faithful

pub returns-clause-adopted : goal.returns-clause-adopted
returns-clause-adopted c = adopted_faithful

pub returns-clause-serving : goal.returns-clause-serving
returns-clause-serving c = serving_has_all

pub returns-clause-given : goal.returns-clause-given
returns-clause-given c = given_is_honest

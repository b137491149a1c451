-- The laws are lemmas.
use Rattle.pn_region.proofs.Faith.{new_faithful, round_keeps, half_keeps}
use Rattle.pn_region.proofs.laws.honest_rounds_keep_tablets_faithful.Goals as goal

pub returns-clause-new : goal.returns-clause-new
returns-clause-new c = new_faithful

pub returns-clause-taken : goal.returns-clause-taken
returns-clause-taken c = round_keeps

pub returns-clause-half_taken : goal.returns-clause-half_taken
returns-clause-half_taken c = half_keeps

-- The laws are lemmas.
use Rattle.pn_apply.proofs.ReduceLaws.{joins_fit, joins_have_positions}
use Rattle.pn_apply.proofs.laws.joins_lie_in_their_ranges.Goals as goal

pub returns-clause-joins : goal.returns-clause-joins
returns-clause-joins c = joins_fit

pub returns-clause-positions : goal.returns-clause-positions
returns-clause-positions c = joins_have_positions

-- No answer reaches over a break.
use Rattle.pn_region.proofs.LogLaws.{below_break, break_after}
use Rattle.pn_region.proofs.read_laws.a_break_is_missed.Goals as goal

pub returns-clause-below : goal.returns-clause-below
returns-clause-below c = below_break

pub returns-clause-broken : goal.returns-clause-broken
returns-clause-broken c = break_after

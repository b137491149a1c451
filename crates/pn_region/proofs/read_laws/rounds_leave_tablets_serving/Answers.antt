-- A join leaves the status as it is.
use Rattle.pn_region.proofs.RoundEnds.{new_serves, taken_serves, half_serves}
use Rattle.pn_region.proofs.read_laws.rounds_leave_tablets_serving.Goals as goal

pub returns-clause-new : goal.returns-clause-new
returns-clause-new c = new_serves

pub returns-clause-taken : goal.returns-clause-taken
returns-clause-taken c = taken_serves

pub returns-clause-half_taken : goal.returns-clause-half_taken
returns-clause-half_taken c = half_serves

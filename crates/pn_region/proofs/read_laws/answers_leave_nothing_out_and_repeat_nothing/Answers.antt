-- One answer goes on from the other.
use Rattle.pn_region.proofs.LogLaws.{both_told, numbers_go_on}
use Rattle.pn_region.proofs.read_laws.answers_leave_nothing_out_and_repeat_nothing.Goals as goal

pub returns-clause-entries : goal.returns-clause-entries
returns-clause-entries c = both_told

pub returns-clause-numbers : goal.returns-clause-numbers
returns-clause-numbers c = numbers_go_on

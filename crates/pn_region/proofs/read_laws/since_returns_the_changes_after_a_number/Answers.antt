-- The answer is the entries there.
use Rattle.pn_region.proofs.LogLaws.{told_entries, told_last, told_few}
use Rattle.pn_region.proofs.read_laws.since_returns_the_changes_after_a_number.Goals as goal

pub returns-clause-entries : goal.returns-clause-entries
returns-clause-entries c = told_entries

pub returns-clause-last : goal.returns-clause-last
returns-clause-last c = told_last

pub returns-clause-few : goal.returns-clause-few
returns-clause-few c = told_few

-- The laws are lemmas.
use Rattle.pn_stay.proofs.Lives.{lived_alike, lived_as_told, lived_faithful, lived_published, lived_records}
use Rattle.pn_stay.proofs.laws.a_server_has_what_it_took.Goals as goal

pub returns-clause-faithful : goal.returns-clause-faithful
returns-clause-faithful c = lived_faithful

pub returns-clause-published : goal.returns-clause-published
returns-clause-published c = lived_published

pub returns-clause-records : goal.returns-clause-records
returns-clause-records c = lived_records

pub returns-clause-alike : goal.returns-clause-alike
returns-clause-alike c = lived_alike

pub returns-clause-script : goal.returns-clause-script
returns-clause-script c = lived_as_told

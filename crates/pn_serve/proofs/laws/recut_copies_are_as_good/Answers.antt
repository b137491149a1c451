-- The law is lemmas.
use Rattle.pn_serve.proofs.Recutting.{recut_honest, recut_ranges, recut_records}
use Rattle.pn_serve.proofs.laws.recut_copies_are_as_good.Goals as goal

pub returns-clause-ranges : goal.returns-clause-ranges
returns-clause-ranges c = recut_ranges

pub returns-clause-honest : goal.returns-clause-honest
returns-clause-honest c = λ broker copies recut bounds lawful is. recut_honest copies recut bounds is broker lawful

pub returns-clause-records : goal.returns-clause-records
returns-clause-records c = λ copies recut bounds lawful is. recut_records copies recut bounds is lawful

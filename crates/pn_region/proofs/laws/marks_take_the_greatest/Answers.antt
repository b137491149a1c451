-- The laws are lemmas.
use Rattle.pn_region.proofs.MarkLaws.{next_reaches, next_has_last}
use Rattle.pn_region.proofs.laws.marks_take_the_greatest.Goals as goal

pub returns-clause-before : goal.returns-clause-before
returns-clause-before c = next_reaches

pub returns-clause-delivered : goal.returns-clause-delivered
returns-clause-delivered c = next_has_last

-- The law is a lemma.
use Rattle.pn_join.proofs.LeastFacts.{position_of-least_marks}
use Rattle.pn_join.proofs.laws.least_positions_are_the_lesser.Goals as goal

pub returns : goal.returns
returns c = position_of-least_marks

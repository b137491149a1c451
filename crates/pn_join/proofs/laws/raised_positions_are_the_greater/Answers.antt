-- The law is a lemma.
use Rattle.pn_join.proofs.MarksFacts.{position_of-raised_marks}
use Rattle.pn_join.proofs.laws.raised_positions_are_the_greater.Goals as goal

pub returns : goal.returns
returns c = position_of-raised_marks

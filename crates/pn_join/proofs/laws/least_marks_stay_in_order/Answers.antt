-- The laws are lemmas.
use Rattle.pn_join.proofs.LeastFacts.{is_sorted-least_marks, are_positions-least_marks}
use Rattle.pn_join.proofs.laws.least_marks_stay_in_order.Goals as goal

pub returns-clause-rising : goal.returns-clause-rising
returns-clause-rising c = is_sorted-least_marks

pub returns-clause-positions : goal.returns-clause-positions
returns-clause-positions c = are_positions-least_marks

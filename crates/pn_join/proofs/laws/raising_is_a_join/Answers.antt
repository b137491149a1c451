-- The laws are lemmas.
use Rattle.pn_join.proofs.MarksFacts.{raised_marks-commutes, raised_marks-associates, raised_marks-repeats, is_sorted-raised_marks, are_positions-raised_marks}
use Rattle.pn_join.proofs.laws.raising_is_a_join.Goals as goal

pub returns-clause-commutes : goal.returns-clause-commutes
returns-clause-commutes c = raised_marks-commutes

pub returns-clause-associates : goal.returns-clause-associates
returns-clause-associates c = raised_marks-associates

pub returns-clause-repeats : goal.returns-clause-repeats
returns-clause-repeats c = raised_marks-repeats

pub returns-clause-rising : goal.returns-clause-rising
returns-clause-rising c = is_sorted-raised_marks

pub returns-clause-positions : goal.returns-clause-positions
returns-clause-positions c = are_positions-raised_marks

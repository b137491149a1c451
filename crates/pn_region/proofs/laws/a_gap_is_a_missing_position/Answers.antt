-- The laws are lemmas.
use Rattle.pn_region.proofs.GapLaws.{none_is_told, too_many_leave_none, gap_is_missing}
use Rattle.pn_region.proofs.laws.a_gap_is_a_missing_position.Goals as goal

pub returns-clause-none : goal.returns-clause-none
returns-clause-none c = none_is_told

pub returns-clause-too_many : goal.returns-clause-too_many
returns-clause-too_many c = too_many_leave_none

pub returns-clause-gap : goal.returns-clause-gap
returns-clause-gap c = gap_is_missing

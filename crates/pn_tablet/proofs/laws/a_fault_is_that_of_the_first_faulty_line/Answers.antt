use Rattle.pn_tablet.proofs.FirstFaults.{cut_off, bad_line, outside_range, not_rising, bad_end, no_memory}
use Rattle.pn_tablet.proofs.laws.a_fault_is_that_of_the_first_faulty_line.Goals as goal

pub returns-clause-truncated : goal.returns-clause-truncated
returns-clause-truncated c = cut_off

pub returns-clause-bad_line : goal.returns-clause-bad_line
returns-clause-bad_line c = bad_line

pub returns-clause-outside_range : goal.returns-clause-outside_range
returns-clause-outside_range c = outside_range

pub returns-clause-not_rising : goal.returns-clause-not_rising
returns-clause-not_rising c = not_rising

pub returns-clause-bad_end : goal.returns-clause-bad_end
returns-clause-bad_end c = bad_end

pub returns-clause-no_other : goal.returns-clause-no_other
returns-clause-no_other c = no_memory

use Rattle.pn_tablet.proofs.CopyLineCounts.{same_count, none_dropped, none_doubled}
use Rattle.pn_tablet.proofs.laws.spellings_of_a_copy_have_as_many_lines.Goals as goal

pub returns-clause-count : goal.returns-clause-count
returns-clause-count c = same_count

pub returns-clause-dropped : goal.returns-clause-dropped
returns-clause-dropped c = none_dropped

pub returns-clause-doubled : goal.returns-clause-doubled
returns-clause-doubled c = none_doubled

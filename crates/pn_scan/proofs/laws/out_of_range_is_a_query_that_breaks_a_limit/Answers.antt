use Rattle.pn_scan.proofs.SameQuery.{out_of_range}
use Rattle.pn_scan.proofs.laws.out_of_range_is_a_query_that_breaks_a_limit.Goals as goal

pub returns : goal.returns
returns c = out_of_range

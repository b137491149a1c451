use Rattle.pn_scan.proofs.SameQuery.{bad_shape}
use Rattle.pn_scan.proofs.laws.a_bad_shape_is_that_of_no_query.Goals as goal

pub returns : goal.returns
returns c = bad_shape

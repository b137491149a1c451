use Rattle.pn_scan.proofs.SameQuery.{shape_alone}
use Rattle.pn_scan.proofs.laws.a_query_is_an_object_of_its_members.Goals as goal

pub returns : goal.returns
returns c = shape_alone

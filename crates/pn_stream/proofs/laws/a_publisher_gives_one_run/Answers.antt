use Rattle.pn_stream.proofs.Runs.{one_run}
use Rattle.pn_stream.proofs.laws.a_publisher_gives_one_run.Goals as goal

pub returns : goal.returns
returns g c = one_run g.S.Source.left g.S.Source.may_fail

use Rattle.pn_stream.proofs.Runs.{two_calls}
use Rattle.pn_stream.proofs.laws.two_calls_are_one.Goals as goal

pub returns : goal.returns
returns c = two_calls

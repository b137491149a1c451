use Rattle.pn_stream.proofs.Runs.{Run-append}
use Rattle.pn_stream.proofs.laws.batches_follow_one_another.Goals as goal

pub returns : goal.returns
returns c = Run-append

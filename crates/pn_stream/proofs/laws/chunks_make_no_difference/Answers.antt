use Rattle.pn_stream.proofs.Gathering.{same_read}
use Rattle.pn_stream.proofs.laws.chunks_make_no_difference.Goals as goal

pub returns : goal.returns
returns c = same_read

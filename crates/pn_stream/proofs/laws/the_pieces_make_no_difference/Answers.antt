use Rattle.pn_stream.proofs.SameBatch.{same_batch}
use Rattle.pn_stream.proofs.laws.the_pieces_make_no_difference.Goals as goal

pub returns : goal.returns
returns c = same_batch

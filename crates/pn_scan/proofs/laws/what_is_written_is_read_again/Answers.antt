use Rattle.pn_scan.proofs.SameQuery.{written_again}
use Rattle.pn_scan.proofs.laws.what_is_written_is_read_again.Goals as goal

pub returns : goal.returns
returns c = written_again

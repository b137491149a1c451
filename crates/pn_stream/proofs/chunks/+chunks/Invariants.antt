-- Fewer workers share what is left.
use Rattle.std.proofs.Common.{◌+◌, ◌*◌}
use Rattle.pn_stream.proofs.chunks.+chunks.Given as goal

abbrev pub decreases-read_chunks : goal.decreases-read_chunks
decreases-read_chunks g l = 2 * l.workers

abbrev pub decreases-back : goal.decreases-back
decreases-back g l = 2 * l.others + 1

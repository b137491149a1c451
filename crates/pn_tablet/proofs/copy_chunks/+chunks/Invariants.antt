-- Fewer chunks are made of what comes before the last one.
use Rattle.std.proofs.Common.{◌+◌, ◌*◌}
use Rattle.pn_tablet.proofs.copy_chunks.+chunks.Given as goal

abbrev pub decreases-read_chunks : goal.decreases-read_chunks
decreases-read_chunks g l = 2 * l.chunks

abbrev pub decreases-front : goal.decreases-front
decreases-front g l = 2 * l.others + 1

-- What was read so far was read of the lines.
use Rattle.pn_stream.specs.Batches.{IsRead}
use Rattle.pn_stream.proofs.chunks.read_in_memory.Given as goal

abbrev pub invariant-loop : goal.invariant-loop
invariant-loop g l = IsRead l.position l.lines l.run.images.items l.run.fault

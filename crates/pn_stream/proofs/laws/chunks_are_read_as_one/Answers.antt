use Rattle.pn_stream.proofs.ChunkLaws.{later_follow, fault_hides}
use Rattle.pn_stream.proofs.laws.chunks_are_read_as_one.Goals as goal

pub returns-clause-follow : goal.returns-clause-follow
returns-clause-follow c = later_follow

pub returns-clause-hidden : goal.returns-clause-hidden
returns-clause-hidden c = fault_hides

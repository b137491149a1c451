-- Memory ran out for one attempt more.
use Rattle.std.proofs.Common.{of_calls}
use Rattle.pn_stream.proofs.Runs.{one_more}
use Rattle.pn_stream.proofs.memory.make_in_memory.Goals as goal

pub returns-then-not-wait-clause-failed : goal.returns-then-not-wait-clause-failed
returns-then-not-wait-clause-failed g c = one_more _ _ _ _ _ c.loop.invariant.1 c.attempt.ensures c.in_default.is

pub loop-preserved : goal.loop-preserved
loop-preserved g c = (search of_calls, one_more _ _ _ _ _ c.loop.invariant.1 c.attempt.ensures c.in_default.is)

-- Memory ran out for all attempts so far.
use denote.Param.Always.{always_mut}
use Rattle.pn_stream.specs.Calls.{FailedSoFar}
use Rattle.pn_stream.proofs.memory.make_in_memory.Given as goal

abbrev pub invariant-loop : goal.invariant-loop
invariant-loop g l = always_mut g.F.FnMut l.attempt × FailedSoFar (goal.F-step g) l.fn.attempt l.attempt

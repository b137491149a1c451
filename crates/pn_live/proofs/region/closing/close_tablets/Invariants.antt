-- The tablets that are left become fewer.
use Rattle.std.specs.Vec.Iter.{into_iter_len}
use Rattle.pn_live.proofs.region.closing.close_tablets.Given as goal

abbrev pub invariant-loop-tablet : goal.invariant-loop-tablet
invariant-loop-tablet g l = Unit {0}

abbrev pub decreases-loop-tablet : goal.decreases-loop-tablet
decreases-loop-tablet g l = into_iter_len l.rest

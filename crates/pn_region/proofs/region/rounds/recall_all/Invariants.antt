-- The tablets so far are sound.
use Rattle.std.proofs.Common.{take}
use Rattle.pn_region.proofs.Common.{AllByRecursion, IsSound}
use Rattle.pn_region.proofs.region.rounds.recall_all.Given as goal

abbrev pub invariant-loop-tablet : goal.invariant-loop-tablet
invariant-loop-tablet l = AllByRecursion IsSound (take l.tablet-index l.tablets)

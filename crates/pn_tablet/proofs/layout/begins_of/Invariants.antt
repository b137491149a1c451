-- The bounds so far are where the ranges so far begin.
use Rattle.std.proofs.Common.{◌≡◌, map, take}
use Rattle.pn_tablet.specs.Layouts.{begins_of}
use Rattle.pn_tablet.proofs.layout.begins_of.Given as goal

abbrev pub invariant-loop-copy : goal.invariant-loop-copy
invariant-loop-copy l = l.bounds.items ≡ begins_of (map (λ copy. copy.range) (take l.copy-index l.copies))

-- The first fall of all is the first that is left.
use Rattle.std.proofs.Common.{◌≡◌, ◌-◌}
use Rattle.pn_tablet.specs.Layouts.{first_fall}
use Rattle.pn_tablet.proofs.LayoutFacts.{fall_from}
use Rattle.pn_tablet.proofs.layout.first_fall.Given as goal

abbrev pub invariant-loop-index : goal.invariant-loop-index
invariant-loop-index l = first_fall l.bounds ≡ fall_from (l.index - 1) l.bounds

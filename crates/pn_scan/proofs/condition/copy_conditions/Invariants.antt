-- The copy shows the conditions so far.
use Rattle.std.proofs.Common.{◌≡◌, map, take}
use Rattle.pn_scan.specs.Queries.{shown_condition}
use Rattle.pn_scan.proofs.condition.copy_conditions.Given as goal

abbrev pub invariant-loop-condition : goal.invariant-loop-condition
invariant-loop-condition l = map shown_condition l.copy.items ≡ take l.condition-index (map shown_condition l.conditions)

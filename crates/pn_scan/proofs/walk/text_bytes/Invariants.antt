-- The bytes of the conditions so far.
use Rattle.std.proofs.Common.{◌≡◌, ◌-◌, ◌^◌, map, take, min}
use Rattle.std.specs.List.{sum_by}
use Rattle.pn_scan.specs.Queries.{shown_condition}
use Rattle.pn_scan.specs.Shown.{condition_bytes}
use Rattle.pn_scan.proofs.walk.text_bytes.Given as goal

abbrev pub invariant-loop-condition : goal.invariant-loop-condition
invariant-loop-condition l = l.bytes ≡ min (sum_by condition_bytes (take l.condition-index (map shown_condition l.conditions))) (2 ^ 64 - 1)

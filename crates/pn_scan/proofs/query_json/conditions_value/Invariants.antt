-- The values so far are the JSON of the conditions so far.
use Rattle.std.proofs.Common.{◌≡◌, map, take}
use Rattle.serde_json.specs.View.{view}
use Rattle.pn_scan.specs.Queries.{shown_condition}
use Rattle.pn_scan.specs.QueryReading.{condition_data}
use Rattle.pn_scan.proofs.query_json.conditions_value.Given as goal

abbrev pub invariant-loop-condition : goal.invariant-loop-condition
invariant-loop-condition l = map view l.values.items ≡ take l.condition-index (map (λ c. condition_data (shown_condition c)) l.conditions)

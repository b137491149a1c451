-- The conditions so far were written.
use Rattle.std.proofs.Common.{map, take}
use Rattle.pn_json.specs.Tokens.{Appends, values_tokens}
use Rattle.pn_scan.specs.Queries.{shown_condition}
use Rattle.pn_scan.specs.QueryReading.{condition_data}
use Rattle.pn_scan.proofs.query_json.write_conditions.Given as goal

abbrev pub invariant-loop-condition : goal.invariant-loop-condition
invariant-loop-condition l = Appends l.initial.writer l.writer (values_tokens (map (λ c. condition_data (shown_condition c)) (take l.condition-index l.conditions)))

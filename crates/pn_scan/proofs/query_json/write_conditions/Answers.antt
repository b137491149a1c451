-- One condition more is written, and at the end all.
use Rattle.std.proofs.Common.{map, ap, sym}
use Rattle.std.proofs.lemmas.List.{take_all}
use Rattle.std.proofs.lemmas.Simd.{map-map}
use Rattle.serde_json.specs.Data.{array}
use Rattle.serde_json.specs.View.{items_of}
use Rattle.pn_json.specs.Tokens.{value_tokens, values_tokens}
use Rattle.pn_json.proofs.AppendedTexts.{appends_none, appends_token, appends_both, appends_as, whole_array, one_more}
use Rattle.pn_scan.specs.Queries.{shown_condition}
use Rattle.pn_scan.specs.QueryReading.{condition_data}
use Rattle.pn_scan.proofs.query_json.write_conditions.Goals as goal

pub loop-condition-init : goal.loop-condition-init
loop-condition-init c = appends_none _

pub loop-condition-preserved : goal.loop-condition-preserved
loop-condition-preserved c =
    appends_as (one_more (λ c. condition_data (shown_condition c)) value_tokens c.args.conditions.now c.loop-condition.condition-index c.condition-item.result c.condition-item.is c.loop-condition-test.true)
    (appends_both c.loop-condition.invariant c.in_ok-write_condition.ensures)

pub returns : goal.returns
returns c =
    let conditions = c.args.conditions.now in
    let all = ap (λ cs. values_tokens (map (λ c. condition_data (shown_condition c)) cs)) (take_all c.loop-condition.condition-index conditions c.loop-condition-test.false) in
    appends_as (ap (λ ds. value_tokens (array (items_of ds))) (sym (map-map condition_data shown_condition conditions)))
    (whole_array (map (λ c. condition_data (shown_condition c)) conditions) (appends_token c.in_ok-begin_array.ensures) (appends_as all c.loop-condition.invariant) (appends_token c.in_ok-end_array.ensures))

-- One value more, and at the end all.
use Rattle.std.proofs.Common.{◌≡◌, map, ap, sym, ◌∙◌, take, arith}
use Rattle.std.proofs.lemmas.List.{length-map, take_all}
use Rattle.std.proofs.lemmas.Simd.{map-map}
use Rattle.serde_json.proofs.Views.{view-Array}
use Rattle.serde_json.specs.Data.{Data, array}
use Rattle.serde_json.specs.View.{view, items_of}
use Rattle.pn_scan.proofs.Conditions.{shown_more}
use Rattle.pn_scan.specs.Queries.{OwnCondition, shown_condition}
use Rattle.pn_scan.specs.QueryReading.{condition_data}
use Rattle.pn_scan.proofs.query_json.conditions_value.Goals as goal

pub loop-condition-preserved : goal.loop-condition-preserved
loop-condition-preserved c =
    ap (map view) c.in_ok-push.ensures.items
    ∙ shown_more (λ c. condition_data (shown_condition c)) c.args.conditions.now c.loop-condition.condition-index c.condition-item.result c.condition-item.is c.loop-condition-test.true view c.loop-condition.values.items c.in_ok-condition_value.field-0 c.loop-condition.invariant c.in_ok-condition_value.ensures

pub returns : goal.returns
returns c =
    let conditions = c.args.conditions.now in
    let i = c.loop-condition.condition-index in
    let json_of : OwnCondition → Data = λ condition. condition_data (shown_condition condition) in
    let whole : take i (map json_of conditions) ≡ map json_of conditions = take_all i (map json_of conditions) (omega (arith, length-map conditions json_of, c.loop-condition-test.false)) in
    view-Array c.loop-condition.values ∙ ap (λ ds. array (items_of ds)) (c.loop-condition.invariant ∙ whole ∙ sym (map-map condition_data shown_condition conditions))

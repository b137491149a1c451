-- One more condition is copied.
use Rattle.std.proofs.Common.{map, ap, ◌∙◌}
use Rattle.pn_scan.proofs.Conditions.{copied_more}
use Rattle.pn_scan.specs.Queries.{shown_condition}
use Rattle.pn_scan.proofs.condition.copy_conditions.Goals as goal

pub loop-condition-preserved : goal.loop-condition-preserved
loop-condition-preserved c =
    ap (map shown_condition) c.in_ok-push.ensures.items
    ∙ copied_more shown_condition c.args.conditions.now c.loop-condition.condition-index c.condition-item.result c.condition-item.is c.loop-condition-test.true c.loop-condition.copy.items c.in_ok-to_condition.field-0 c.loop-condition.invariant (c.in_ok-to_condition.ensures ∙ c.as_ref.ensures)

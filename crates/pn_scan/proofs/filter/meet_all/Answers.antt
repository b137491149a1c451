-- One that is not met decides; at the end all are.
use Rattle.std.proofs.Common.{sym, ◌∙◌, map, arith}
use Rattle.pn_record.specs.Showing.{shown_field}
use Rattle.pn_scan.specs.Queries.{shown_condition, meets}
use Rattle.pn_scan.proofs.Conditions.{one_fails, one_passes, all_passed}
use Rattle.pn_scan.proofs.filter.meet_all.Goals as goal

pub returns-then-not-meet : goal.returns-then-not-meet
returns-then-not-meet c =
    one_fails (meets (map shown_field c.args.fields.now)) shown_condition c.args.conditions.now c.loop-condition.condition-index c.condition-item.result c.condition-item.is (omega arith) (sym c.meet.ensures ∙ c.if-not-meet.true)
    ∙ c.loop-condition.invariant

pub loop-condition-preserved : goal.loop-condition-preserved
loop-condition-preserved c =
    one_passes (meets (map shown_field c.args.fields.now)) shown_condition c.args.conditions.now c.loop-condition.condition-index c.condition-item.result c.condition-item.is (omega arith) (sym c.meet.ensures ∙ c.if-not-meet.false)
    ∙ c.loop-condition.invariant

pub returns : goal.returns
returns c =
    all_passed (meets (map shown_field c.args.fields.now)) shown_condition c.args.conditions.now c.loop-condition.condition-index (omega arith)
    ∙ c.loop-condition.invariant

-- One condition more is counted.
use Rattle.std.proofs.Common.{◌≡◌, ◌-◌, ◌^◌, min, ap, ◌∙◌, arith}
use Rattle.pn_scan.specs.Queries.{shown_condition}
use Rattle.pn_scan.proofs.Walking.{bytes_all, bytes_more}
use Rattle.pn_scan.proofs.walk.text_bytes.Goals as goal

pub loop-condition-preserved : goal.loop-condition-preserved
loop-condition-preserved c =
    let more = bytes_more shown_condition c.args.conditions.now c.loop-condition.condition-index c.condition-item.result c.condition-item.is (omega arith) in
    omega (arith, more, c.bytes_of.ensures, c.saturating_add-bytes.ensures, c.loop-condition.invariant)

pub returns : goal.returns
returns c =
    c.loop-condition.invariant
    ∙ ap (λ n. min n (2 ^ 64 - 1)) (bytes_all shown_condition c.args.conditions.now c.loop-condition.condition-index (omega arith))

-- One content more is weighed.
use Rattle.std.proofs.Common.{◌≡◌, ◌-◌, ◌^◌, min, ap, ◌∙◌, arith}
use Rattle.pn_tablet.specs.Tablets.{content_weight}
use Rattle.pn_tablet.proofs.Counting.{own_all, own_more}
use Rattle.pn_tablet.proofs.weight.weigh_each.Goals as goal

pub loop-content-preserved : goal.loop-content-preserved
loop-content-preserved c =
    let more = own_more content_weight c.args.contents.now c.loop-content.content-index c.content-item.result c.content-item.is (omega arith) in
    omega (arith, more, c.content_weight.ensures, c.saturating_add-weight.ensures, c.loop-content.invariant)

pub returns : goal.returns
returns c =
    c.loop-content.invariant
    ∙ ap (λ n. min n (2 ^ 64 - 1)) (own_all content_weight c.args.contents.now c.loop-content.content-index (omega arith))

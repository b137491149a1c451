-- The weight of the contents so far.
use Rattle.std.proofs.Common.{◌≡◌, ◌-◌, ◌^◌, take, min}
use Rattle.std.specs.List.{sum_by}
use Rattle.pn_tablet.specs.Tablets.{content_weight}
use Rattle.pn_tablet.proofs.weight.weigh_each.Given as goal

abbrev pub invariant-loop-content : goal.invariant-loop-content
invariant-loop-content l = l.weight ≡ min (sum_by content_weight (take l.content-index l.contents)) (2 ^ 64 - 1)

-- A cover that reaches its reach equals it.
use Rattle.std.proofs.Common.{◌≡◌}
use Rattle.pn_tablet.proofs.TabletLaws.{same_reached}
use Rattle.pn_tablet.proofs.coverage.Coverage.of_parts.Goals as goal

pub returns-then-reaches : goal.returns-then-reaches
returns-then-reaches c =
    let same : c.args.cover ≡ c.args.reach =
    same_reached c.args.cover c.args.reach c.recall_order.ensures c.recall_order-2.ensures c.requires.positions c.requires.reach_positions (c.reaches.ensures.0 c.if-reaches.true) c.requires.reached in
    λ i. record { cover = c.args.cover; reach = same i }

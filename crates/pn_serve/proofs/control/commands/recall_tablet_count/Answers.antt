-- The tablets are those of the ranges between the bounds.
use Rattle.pn_region.proofs.RoundSteps.{tablet_count}
use Rattle.pn_live.specs.LiveRegions.{core}
use Rattle.pn_serve.proofs.control.commands.recall_tablet_count.Goals as goal

pub returns : goal.returns
returns c =
    let live = c.args.live.now in
    tablet_count live.marks live.layout (core live).tablets c.layout-layout.ensures.region.tablets

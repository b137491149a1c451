-- The tablets are those of the ranges between the bounds.
use Rattle.pn_region.proofs.RoundSteps.{tablet_count}
use Rattle.pn_protocol.proofs.reply.tablets.recall_tablet_count.Goals as goal

pub returns : goal.returns
returns c =
    let region = c.args.region.now.state in
    tablet_count region.marks region.layout region.tablets c.layout-layout.ensures.region.tablets

-- The number is one of the layout's.
use Rattle.std.proofs.Common.{arith}
use Rattle.pn_serve.proofs.control.commands.LiveTabletsShownTablets.tablet.Goals as goal

pub tablet-requires : goal.tablet-requires
tablet-requires c = omega (arith, c.recall_tablet_count.ensures, c.requires)

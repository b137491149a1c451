-- The layout has as many tablets as the region.
use Rattle.std.proofs.Common.{length, ap, arith}
use Rattle.pn_tablet.specs.Layouts.{Bounds}
use Rattle.pn_serve.proofs.control.commands.LiveTabletsShownTablets.count.Goals as goal

pub returns : goal.returns
returns c = omega (arith, c.recall_tablet_count.ensures, c.count.ensures.count, ap (λ (bounds : Bounds). length bounds) c.layout.ensures.layout)

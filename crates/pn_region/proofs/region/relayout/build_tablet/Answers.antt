-- The cells that are kept lie in the range.
use Rattle.std.proofs.Common.{sym, subst, IsTrue}
use Rattle.pn_apply.proofs.Tables.{all_that}
use Rattle.pn_region.proofs.Common.{Entries, in_range, lie_in}
use Rattle.pn_region.proofs.Pieces.{cells_of}
use Rattle.pn_region.proofs.region.relayout.build_tablet.Goals as goal

pub of_parts-requires-clause-inside : goal.of_parts-requires-clause-inside
of_parts-requires-clause-inside c =
    subst (λ (es : Entries). IsTrue (lie_in c.args.range es)) (sym c.in_ok-cells.ensures) (all_that (in_range c.args.range) (cells_of c.args.tablets.now))

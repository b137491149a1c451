-- The next tablet has its own cells in the range more, or none there.
use Rattle.std.proofs.Common.{◌++◌, sym, ap, ◌∙◌}
use Rattle.pn_apply.proofs.Tables.{entries_that}
use Rattle.pn_region.proofs.Common.{Entries, in_range}
use Rattle.pn_region.proofs.Pieces.{cells_more, cells_skipped, more_rise}
use Rattle.pn_region.proofs.region.relayout.cells_in.Goals as goal
use Rattle.pn_region.proofs.region.relayout.cells_in.Goals.{then-is_part+in_ok-cells, else-is_part}

pub with_cells-requires : goal.with_cells-requires
with_cells-requires c =
    more_rise c.args.range.now c.args.tablets.now c.loop-tablet.tablet-index c.tablet-item.result c.loop-tablet-test.true c.tablet-item.is c.loop-tablet.cells c.loop-tablet.invariant c.requires

pub loop-tablet-preserved : goal.loop-tablet-preserved
loop-tablet-preserved c =
    elim c.if-is_part.branch [
      | then-is_part+in_ok-cells w ↦
          w.cells-is ∙ w.in_ok-cells.ensures ∙ ap (λ (es : Entries). es ++ entries_that (in_range c.args.range.now) c.tablet-item.result.cells) c.loop-tablet.invariant
          ∙ sym (cells_more c.args.range.now c.args.tablets.now c.loop-tablet.tablet-index c.tablet-item.result c.loop-tablet-test.true (sym c.tablet-item.is))
      | else-is_part w ↦
          w.cells-is ∙ c.loop-tablet.invariant
          ∙ sym (cells_skipped c.args.range.now c.args.tablets.now c.loop-tablet.tablet-index c.tablet-item.result c.loop-tablet-test.true (sym c.tablet-item.is) (sym c.is_part.ensures.part ∙ w.if-is_part.false) c.is_part.ensures.inside)
    ]

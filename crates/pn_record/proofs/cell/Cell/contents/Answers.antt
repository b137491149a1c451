-- The list of a cell's contents is in content order.
use Rattle.std.proofs.Common.{sym, ap, ◌∙◌}
use Rattle.std.specs.FinMap.{keys}
use Rattle.pn_record.specs.Showing.{held_contents}
use Rattle.pn_record.specs.Sets.{CellValue}
use Rattle.pn_record.specs.Laws.{keys-set_of}
use Rattle.pn_record.proofs.cell.Cell.contents.Goals as goal

pub returns-clause-contents : goal.returns-clause-contents
returns-clause-contents c =
    c.as_slice.ensures ∙ ap held_contents c.deref.ensures ∙ sym (keys-set_of _ c.self.invariant.rising)
    ∙ ap (λ (cell : CellValue). keys cell.1) c.self.view_is

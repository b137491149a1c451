-- What is not deleted is there.
use Rattle.std.proofs.Common.{◌≡◌, ◌-◌, not, count_by, ap, ◌∙◌, arith}
use Rattle.pn_record.specs.Cells.{Entries}
use Rattle.pn_tablet.specs.Tablets.{deleted_in, is_deleted}
use Rattle.pn_tablet.proofs.Counting.{both_counted}
use Rattle.pn_tablet.proofs.counted_cells.CountedCells.counts.Goals as goal

pub returns : goal.returns
returns c =
    let cells : Entries = c.self.inside.cells in
    let left : c.len.result - c.self.inside.deleted ≡ count_by (λ e. not (is_deleted e.1)) cells = omega (arith, both_counted cells, c.len.ensures.count, c.self.invariant) in
    λ i. record {
      records = (left ∙ ap (λ (es : Entries). count_by (λ e. not (is_deleted e.1)) es) c.self.view_is) i;
      deleted = (c.self.invariant ∙ ap deleted_in c.self.view_is) i;
    }

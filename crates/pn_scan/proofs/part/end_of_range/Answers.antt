-- The key at the index is not below the end, and none after it.
use Rattle.std.proofs.Common.{sym}
use Rattle.pn_join.proofs.Rising.{Rising-from_sorted}
use Rattle.pn_record.specs.Sets.{bytes_cmp}
use Rattle.pn_scan.proofs.Looking.{none_from_end}
use Rattle.pn_scan.proofs.part.end_of_range.Goals as goal

pub returns-in-Some-clause-shown : goal.returns-in-Some-clause-shown
returns-in-Some-clause-shown c =
    none_from_end c.args.query.now c.in-Some.to.now c.args.cells.now c.lower_bound.result (sym c.in-Some.ensures) (Rising-from_sorted bytes_cmp c.args.cells.now c.recall_order.ensures) c.lower_bound.ensures

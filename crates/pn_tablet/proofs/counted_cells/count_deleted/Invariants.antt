-- The deleted cells so far, and those that are left, are all deleted cells.
use Rattle.std.proofs.Common.{◌≡◌, ◌+◌}
use Rattle.pn_tablet.specs.Tablets.{deleted_in}
use Rattle.pn_tablet.proofs.counted_cells.count_deleted.Given as goal

abbrev pub invariant-loop-key : goal.invariant-loop-key
invariant-loop-key l = l.count + deleted_in l._key-iterator ≡ deleted_in l.cells

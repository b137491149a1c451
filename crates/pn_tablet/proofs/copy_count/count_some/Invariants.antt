-- The records so far are counted, and those that are left come after them.
use Rattle.std.proofs.Common.{◌≡◌, ◌+◌, drop}
use Rattle.pn_tablet.specs.CopyWriting.{IsCountedIn}
use Rattle.pn_tablet.proofs.copy_count.count_some.Given as goal

abbrev pub invariant-loop-key : goal.invariant-loop-key
invariant-loop-key l = record {
  counted : IsCountedIn l.cells l.now;
  rest : l.key-iterator ≡ drop l.now.records l.cells;
  left : l.left + l.now.records ≡ l.records + l.fn.counted.records;
}

-- The rows so far, and those of what is left, are those before and all that are shown; what was looked at is counted.
use Rattle.std.proofs.Common.{◌≡◌, ◌<◌, ◌≤◌, ◌⊎◌, ◌+◌, ◌++◌, length, drop, max}
use Rattle.pn_join.proofs.Rising.{Rising}
use Rattle.pn_record.specs.Sets.{bytes_cmp}
use Rattle.pn_scan.specs.Shown.{rows_from, place_rows, place_work, records_work}
use Rattle.pn_scan.proofs.walk.walk_some.Given as goal

abbrev pub invariant-loop-key : goal.invariant-loop-key
invariant-loop-key l = record {
  rows : l.rows.items ++ rows_from l.query l.seen l.key-iterator ≡ l.fn.rows.items ++ place_rows l.query l.cells l.fn.from;
  left : l.key-iterator ≡ drop l.index l.cells;
  few : length l.rows.items ≤ l.room;
  most : l.done ≤ max l.most 386;
  work : place_work l.query l.cells l.fn.from ≤ l.done + records_work l.query.conditions l.seen l.key-iterator;
  further : ((l.index ≡ l.fn.from.index) × (l.seen ≡ l.fn.from.seen) × (l.done ≡ 0)) ⊎ (l.fn.from.index < l.index);
  rising : Rising bytes_cmp l.key-iterator;
}

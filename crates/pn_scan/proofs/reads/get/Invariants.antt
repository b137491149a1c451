-- The keys so far were looked up. If memory did not run out, their cells are at hand, with capacity for the others.
use Rattle.std.proofs.Common.{◌≡◌, ◌≤◌, IfSome, List, length, vec_capacity, vec_len, Option}
use Rattle.pn_record.specs.Sets.{CellValue}
use Rattle.pn_scan.proofs.Getting.{IsLooking}
use Rattle.pn_scan.proofs.reads.get.Given as goal

abbrev pub invariant-loop-key : goal.invariant-loop-key
invariant-loop-key g l = record {
  got : (cells : List (Option CellValue)) × IsLooking g.V.View.looks (g.V.View.bounds l.initial.view) l.keys l.key-index l.initial.view l.view cells × IfSome l.cells (λ all. all.items ≡ cells);
  capacity : IfSome l.cells (λ cells. (length l.keys ≤ vec_capacity cells) × (vec_len cells ≡ l.key-index));
  bounds : g.V.View.bounds l.view ≡ g.V.View.bounds l.initial.view;
}

-- The keys so far were read. If memory did not run out, their cells are at hand, with capacity for the others.
use Rattle.std.proofs.Common.{◌≡◌, ◌≤◌, ◌++◌, IfSome, List, length, vec_capacity, vec_len}
use Rattle.pn_scan.specs.Paging.{Follows, LookMade, OnlyLooks}
use Rattle.pn_live.specs.Lookups.{IsOnGet}
use Rattle.pn_live.specs.Readers.{LiveReaderValue, LooksLive, tablets_of}
use Rattle.pn_live.proofs.Getting.{at_hand}
use Rattle.pn_live.proofs.get_walk.GetWalk.go_on.Given as goal

abbrev pub invariant-loop-index : goal.invariant-loop-index
invariant-loop-index l = record {
  goes : (trace : List (LookMade LiveReaderValue)) → IsOnGet l.initial.reader.layout (record { keys = l.keys.items; cells = at_hand l.initial.cells; read = l.read }) trace
      → (more : List (LookMade LiveReaderValue)) × Follows l.initial.reader more l.reader × IsOnGet l.initial.reader.layout (record { keys = l.keys.items; cells = at_hand l.cells; read = l.index }) (trace ++ more);
  capacity : IfSome l.cells (λ cells. (length l.keys.items ≤ vec_capacity cells) × (vec_len cells ≡ l.index));
  looked : OnlyLooks LooksLive l.initial.reader l.reader;
  same : tablets_of l.reader ≡ tablets_of l.initial.reader;
}

-- The bounds so far are copied, and the list takes the others without growing.
use Rattle.std.proofs.Common.{◌≡◌, length, take, vec_capacity}
use Rattle.pn_tablet.proofs.layout.LayoutDup.dup.Given as goal

abbrev pub invariant-loop-bound : goal.invariant-loop-bound
invariant-loop-bound l = record {
  copied : l.bounds.items ≡ take l.bound-index l.bound-items;
  capacity : vec_capacity l.bounds ≡ length l.bound-items;
}

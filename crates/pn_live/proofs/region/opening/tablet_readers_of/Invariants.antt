-- The tablets so far have given a reader each.
use Rattle.std.proofs.Common.{◌≡◌, map, take, length, vec_capacity}
use Rattle.pn_live.specs.Readers.{new_reader_of}
use Rattle.pn_live.proofs.region.opening.tablet_readers_of.Given as goal

abbrev pub invariant-loop-number : goal.invariant-loop-number
invariant-loop-number l = record {
  tablet_readers : l.tablet_readers.items ≡ map new_reader_of (take l.number l.fn.tablets);
  same : l.tablets ≡ l.fn.tablets;
  capacity : vec_capacity l.tablet_readers ≡ length l.fn.tablets;
}

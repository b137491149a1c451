-- The readers so far are new.
use Rattle.std.proofs.Common.{◌≡◌, map, length, vec_capacity}
use Rattle.std.specs.List.{AllByRecursion}
use Rattle.pn_live.specs.Readers.{new_reader_of}
use Rattle.pn_live.proofs.region.opening.readers_of.Given as goal

abbrev pub invariant-loop : goal.invariant-loop
invariant-loop l = record {
  readers : AllByRecursion (λ reader. (reader.layout ≡ l.layout) × (reader.tablet_readers ≡ map new_reader_of l.fn.tablets)) l.readers.items;
  same : l.tablets ≡ l.fn.tablets;
  count : length l.readers.items ≡ l.counter;
  capacity : vec_capacity l.readers ≡ l.fn.count;
}

-- The reader of each stream so far.
use Rattle.std.proofs.Common.{◌≡◌, map, All}
use Rattle.pn_stay.proofs.streams.input.open_files.Given as goal

abbrev pub invariant-loop-name : goal.invariant-loop-name
invariant-loop-name g l = record {
  names : map (λ reader. reader.name) l.opened.readers.items ≡ map (λ stream. stream.0) l.yielded;
  first : All (λ reader. reader.position ≡ 0) l.opened.readers.items;
}

-- The first bytes were written.
use Rattle.std.proofs.Common.{◌≤◌, ◌-◌, length, take}
use Rattle.std.specs.Io.KnownBytes.{Appends}
use Rattle.pn_lines.proofs.turns.sending.write_some_of.Given as goal

abbrev pub invariant-writes : goal.invariant-writes
invariant-writes g l = record {
  written : Appends (g.W.Sink.contents l.initial.output) (g.W.Sink.contents l.output) (take l.count l.bytes);
  within : l.count ≤ length l.bytes;
}

abbrev pub decreases-writes : goal.decreases-writes
decreases-writes g l = length l.bytes - l.count

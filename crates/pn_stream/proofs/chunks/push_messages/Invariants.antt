-- The lines so far are messages in step.
use Rattle.std.proofs.Common.{◌≡◌, length, take}
use Rattle.pn_stream.specs.Streams.{InStep}
use Rattle.pn_stream.proofs.chunks.push_messages.Given as goal

abbrev pub invariant-loop-line : goal.invariant-loop-line
invariant-loop-line l = record {
  in_step : InStep l.position (take l.line-index l.lines) l.images.items;
  count : length l.images.items ≡ l.line-index;
}

-- The streams so far, then those of the rest, are the streams of all.
use Rattle.std.proofs.Common.{◌≡◌, drop, map, length}
use Rattle.std.specs.Prelude.{vec_len, vec_capacity}
use Rattle.pn_json.specs.Members.{texts}
use Rattle.pn_arguments.specs.OptionTexts.{each_stream, stream_value}
use Rattle.pn_protocol.proofs.CommandLimits.{onto}
use Rattle.pn_arguments.proofs.streams.each_of.Given as goal

abbrev pub invariant-loop-index : goal.invariant-loop-index
invariant-loop-index l = record {
  so_far : each_stream l.stays 0 (texts l.words)
      ≡ onto (map stream_value l.streams.items) (each_stream l.stays l.index (texts (drop l.index l.words)));
  count : vec_len l.streams ≡ l.index;
  capacity : vec_capacity l.streams ≡ length l.words;
}

-- A stream of the rest has the name exactly if one of all has.
use Rattle.std.proofs.Common.{◌≡◌, drop, map}
use Rattle.pn_arguments.specs.OptionTexts.{has_name as name_among, stream_value}
use Rattle.pn_arguments.proofs.streams.has_name.Given as goal

abbrev pub invariant-loop-stream : goal.invariant-loop-stream
invariant-loop-stream l = name_among (map stream_value l.streams) l.name ≡ name_among (map stream_value (drop l.stream-index l.streams)) l.name

-- The first repeated name of the rest is that of all.
use Rattle.std.proofs.Common.{◌≡◌, drop, map}
use Rattle.pn_arguments.specs.OptionTexts.{repeated_from, stream_value}
use Rattle.pn_arguments.proofs.streams.repeated_name.Given as goal

abbrev pub invariant-loop-index : goal.invariant-loop-index
invariant-loop-index l =
    repeated_from 0 (map stream_value l.streams) ≡ repeated_from l.index (map stream_value (drop l.index l.streams))

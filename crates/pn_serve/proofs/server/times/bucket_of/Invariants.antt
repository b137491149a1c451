-- The limits so far are passed.
use Rattle.std.proofs.Common.{◌<◌, take}
use Rattle.std.specs.List.{All}
use Rattle.pn_serve.proofs.server.times.bucket_of.Given as goal

abbrev pub invariant-loop-index : goal.invariant-loop-index
invariant-loop-index l = All (λ limit. limit < l.micros) (take l.index l.limits)

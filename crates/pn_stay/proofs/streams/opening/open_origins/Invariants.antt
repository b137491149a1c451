-- Each stream so far is opened.
use Rattle.std.proofs.Common.{◌≡◌, map}
use Rattle.pn_stay.proofs.streams.opening.open_origins.Given as goal

abbrev pub invariant-loop-name : goal.invariant-loop-name
invariant-loop-name g l = map (λ stream. stream.name) l.opened.streams.items ≡ map (λ stream. stream.0) l.yielded

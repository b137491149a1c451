-- The shares so far stand for the same deliveries.
use Rattle.std.proofs.Common.{◌≡◌}
use Rattle.pn_serve.proofs.server.tries.finish_shares.Given as goal

abbrev pub invariant-loop-index : goal.invariant-loop-index
invariant-loop-index l = l.shares ≡ l.fn.shares

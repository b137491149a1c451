-- The reader reads the region's tablets, which stay.
use Rattle.std.proofs.Common.{◌≡◌}
use Rattle.pn_live.specs.LiveRegions.{tablets_in}
use Rattle.pn_live.specs.Readers.{tablets_of}
use Rattle.test_serving.proofs.live.rows.rounds_beside.Given as goal

abbrev pub invariant-loop-number : goal.invariant-loop-number
invariant-loop-number g l = record { same : tablets_in l.live ≡ tablets_in l.fn.live; reader : tablets_of l.learner.reader ≡ tablets_in l.live }

-- The reader knows no less.
use Rattle.pn_serve.specs.Session.Resuming.{KnowsNoLess}
use Rattle.pn_stay.proofs.event_loop.EventLoop.run.Given as goal

abbrev pub invariant-rounds : goal.invariant-rounds
invariant-rounds g l = KnowsNoLess l.initial.reader l.reader

-- The reader knows no less.
use Rattle.pn_serve.specs.Session.Resuming.{KnowsNoLess}
use Rattle.pn_stay.proofs.event_loop.EventLoop.take_turns.Given as goal

abbrev pub invariant-loop-key : goal.invariant-loop-key
invariant-loop-key g l = KnowsNoLess l.initial.reader l.reader

-- What was answered so far, and the reader knows no less.
use Rattle.pn_lines.specs.Driving.{start_at}
use Rattle.pn_serve.specs.Session.Resuming.{KnowsNoLess}
use Rattle.pn_serve.proofs.ControlEnds.{SoFar}
use Rattle.pn_serve.proofs.control.session.answer_lines.Given as goal

abbrev pub invariant-loop : goal.invariant-loop
invariant-loop g l = record {
  so_far : SoFar (start_at l.fn.handler (g.S.Source.left l.fn.input) (g.W.Sink.contents l.fn.output)) (g.S.Source.left l.input) (g.W.Sink.contents l.output) l.handler;
  knows : KnowsNoLess l.fn.handler.reader l.handler.reader;
}

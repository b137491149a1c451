-- What a session begins with, and the reader that it gives back.
use Rattle.std.proofs.Common.{subst}
use Rattle.pn_serve.specs.Control.Lines.{ControlEnds, ControlState}
use Rattle.pn_lines.specs.Driving.{start_at}
use Rattle.pn_serve.proofs.ControlEnds.{client_knows}
use Rattle.pn_serve.proofs.control.session.ControlSession.answer.Goals as goal

pub returns-clause-ends : goal.returns-clause-ends
returns-clause-ends g c = record {
  state = c.answer_lines-ended.new.handler;
  is = c.end-reader.ensures.reader;
  ends = subst (λ (m : ControlState). ControlEnds (start_at m (g.S.Source.left c.args.input.now) (g.W.Sink.contents c.args.output.now)) (g.S.Source.left c.answer_lines-ended.new.input) (g.W.Sink.contents c.answer_lines-ended.new.output) c.answer_lines-ended.new.handler c.answer_lines-ended.result)
      c.new-handler.ensures c.answer_lines-ended.ensures.ends;
}

pub returns-clause-knows : goal.returns-clause-knows
returns-clause-knows g c = client_knows _ _ c.new-handler.result c.answer_lines-ended.new.handler c.new-handler.ensures c.answer_lines-ended.ensures.knows c.end-reader.ensures.reader

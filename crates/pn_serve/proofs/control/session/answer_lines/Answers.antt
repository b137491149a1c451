-- A run begins, ends, or is followed by another.
use Rattle.std.proofs.Common.{sym, subst}
use Rattle.std.specs.Prelude.{Result}
use Rattle.pn_lines.specs.Driving.{HasEnded, start_at}
use Rattle.pn_lines.specs.declared.driver.LinesFault.{LinesFault}
use Rattle.pn_lines.specs.declared.engine.Counts.{Counts}
use Rattle.pn_serve.specs.Control.Lines.{ControlEnds, controls}
use Rattle.pn_serve.specs.declared.script.RunFault.{RunFault}
use Rattle.pn_serve.specs.declared.script.TheConstants.{MAX_LINES}
use Rattle.pn_serve.proofs.ControlEnds.{more_so_far, none_so_far, session_ends, session_shut}
use Rattle.pn_serve.proofs.Knowing.{knows_itself, knows_on}
use Rattle.pn_serve.proofs.Lookups.{when_false, when_true}
use Rattle.pn_serve.proofs.control.session.answer_lines.Goals as goal

pub loop-init : goal.loop-init
loop-init g c = record {
  so_far = none_so_far c.args.handler.now (g.S.Source.left c.args.input.now) (g.W.Sink.contents c.args.output.now);
  knows = knows_itself c.args.handler.now.reader;
}

pub loop-preserved : goal.loop-preserved
loop-preserved g c = record {
  so_far = more_so_far (start_at c.args.handler.now (g.S.Source.left c.args.input.now) (g.W.Sink.contents c.args.output.now)) (g.S.Source.left c.loop.input) (g.W.Sink.contents c.loop.output) c.loop.handler c.loop.invariant.so_far
      (g.S.Source.left c.answer_lines-ended.new.input) (g.W.Sink.contents c.answer_lines-ended.new.output) c.answer_lines-ended.new.machine
      (subst (λ (r : Result Counts LinesFault). HasEnded controls MAX_LINES (start_at c.loop.handler (g.S.Source.left c.loop.input) (g.W.Sink.contents c.loop.output)) (g.S.Source.left c.answer_lines-ended.new.input)
      (g.W.Sink.contents c.answer_lines-ended.new.output) c.answer_lines-ended.new.machine r) (when_true _ c.if-not-is_full.false _ _ c.is_full.ensures) c.answer_lines-ended.ensures.ends);
  knows = knows_on c.args.handler.now.reader c.loop.handler.reader c.answer_lines-ended.new.machine.reader c.loop.invariant.knows c.answer_lines-ended.ensures.kept;
}

pub returns-then-not-is_full-clause-ends : goal.returns-then-not-is_full-clause-ends
returns-then-not-is_full-clause-ends g c =
    let start = start_at c.args.handler.now (g.S.Source.left c.args.input.now) (g.W.Sink.contents c.args.output.now) in
    let left = g.S.Source.left c.answer_lines-ended.new.input in
    let written = g.W.Sink.contents c.answer_lines-ended.new.output in
    subst (λ (r : Result (Unit {0}) RunFault). ControlEnds start left written c.answer_lines-ended.new.machine r) (sym c.uncount.ensures)
    (session_ends start (g.S.Source.left c.loop.input) (g.W.Sink.contents c.loop.output) c.loop.handler c.loop.invariant.so_far left written c.answer_lines-ended.new.machine c.answer_lines-ended.result
    (when_false _ c.if-not-is_full.true _ _ c.is_full.ensures) (session_shut _ _ _ _ c.answer_lines-ended.result c.answer_lines-ended.ensures.can) c.answer_lines-ended.ensures.ends)

pub returns-then-not-is_full-clause-knows : goal.returns-then-not-is_full-clause-knows
returns-then-not-is_full-clause-knows g c = knows_on c.args.handler.now.reader c.loop.handler.reader c.answer_lines-ended.new.machine.reader c.loop.invariant.knows c.answer_lines-ended.ensures.kept

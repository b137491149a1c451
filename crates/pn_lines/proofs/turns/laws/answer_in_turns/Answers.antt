-- One turn after another, and those of others in between.
use Rattle.pn_lines.specs.Driving.{start_at}
use Rattle.pn_lines.specs.Turns.{at}
use Rattle.pn_lines.specs.declared.engine.state.LinesEnd.TheVariants.{Input}
use Rattle.pn_lines.specs.declared.turns.TurnOutcome.TheVariants.{Ended}
use Rattle.pn_lines.proofs.Following.{Follows-begun, Follows-between, Follows-finished, Follows-pending, Follows-over, some_is}
use Rattle.pn_lines.proofs.turns.laws.answer_in_turns.Goals as goal

pub turns-init : goal.turns-init
turns-init g c = Follows-begun g.M.LineHandler.handling g.met.M.LineHandler.steady.0 c.args.machine.now (g.R.Input.remaining c.args.input.now) (g.W.Sink.contents c.args.output.now) c.args.lines.now c.requires.new

pub turns-preserved : goal.turns-preserved
turns-preserved g c =
    let M = g.M.LineHandler in
    let before = g.R.Input.remaining c.args.input.now in
    let start = start_at c.args.machine.now before (g.W.Sink.contents c.args.output.now) in
    let turned = at (g.R.Input.remaining c.turn.new.input) (g.W.Sink.contents c.turn.new.output) c.turn.new.machine c.turn.new.self in
    Follows-between M.handling M.left g.met.M.LineHandler.steady.0 start before turned c.have_turns.new.machine c.have_turns.ensures.moves
    (Follows-pending M.handling M.left g.met.M.LineHandler.steady.0 start before
    (at (g.R.Input.remaining c.turns.input) (g.W.Sink.contents c.turns.output) c.turns.machine c.turns.lines) turned
    c.in-Goes.field-0 c.in-Goes.ensures.turns c.turns.invariant)

pub returns-in_default : goal.returns-in_default
returns-in_default g c =
    let M = g.M.LineHandler in
    let start = start_at c.args.machine.now (g.R.Input.remaining c.args.input.now) (g.W.Sink.contents c.args.output.now) in
    let old = at (g.R.Input.remaining c.turns.input) (g.W.Sink.contents c.turns.output) c.turns.machine c.turns.lines in
    let new = at (g.R.Input.remaining c.turn.new.input) (g.W.Sink.contents c.turn.new.output) c.turn.new.machine c.turn.new.self in
    let finishes = Follows-finished M.handling M.left g.met.M.LineHandler.steady.0 start old new c.turn.result c.turn.ensures.turns c.turns.invariant in
    record {
      finishes = finishes;
      ends = λ is. Follows-over M.handling M.left g.met.M.LineHandler.steady.0 start new c.turn.result (some_is c.turn.result (Ended Input) is) finishes;
      gives_up = λ none. cc;
    }

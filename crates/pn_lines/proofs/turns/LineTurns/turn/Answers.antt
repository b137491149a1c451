-- What waited goes first; where the sink leaves some of it, an answer is gone on with and nothing else is done.
use Rattle.std.proofs.Common.{refl}
use Rattle.pn_lines.specs.Turns.{at}
use Rattle.pn_lines.specs.declared.turns.TurnFault.TheVariants.{Write}
use Rattle.pn_lines.specs.declared.turns.TurnOutcome.TheVariants.{Failed}
use Rattle.pn_lines.proofs.Turned.{Turned-pending, Turned-sent, Turned-waiting, fails_not}
use Rattle.pn_lines.proofs.turns.LineTurns.turn.Goals as goal

pub returns-in-All-clause-turns : goal.returns-in-All-clause-turns
returns-in-All-clause-turns g c =
    let M = g.M.LineHandler in
    let on = c.work_and_send in
    Turned-sent M.handling M.left (g.R.Input.remaining c.args.input.now) (g.W.Sink.contents c.args.output.now) (g.W.Sink.contents c.send.new.output) c.args.machine.now _ c.args.self.now
    (at (g.R.Input.remaining on.new.input) (g.W.Sink.contents on.new.output) on.new.machine on.new.self) c.send.new.replies.items on.result c.self.view_is c.send.ensures.takes (c.in-All.ensures.all refl) on.ensures.turns

pub returns-in-Waits-clause-turns : goal.returns-in-Waits-clause-turns
returns-in-Waits-clause-turns g c =
    let M = g.M.LineHandler in
    Turned-pending M.handling M.left (g.R.Input.remaining c.args.input.now) (g.W.Sink.contents c.args.output.now) (g.W.Sink.contents c.send.new.output) c.args.machine.now c.go_further.new.machine _ c.args.self.now c.go_further.new.self c.send.new.replies.items
    c.self.view_is c.send.ensures.takes (c.in-Waits.ensures.some refl) c.go_further.ensures.stands c.go_further.ensures.lines

pub returns-in-Fails-clause-turns : goal.returns-in-Fails-clause-turns
returns-in-Fails-clause-turns g c =
    let M = g.M.LineHandler in
    Turned-waiting M.handling M.left (g.R.Input.remaining c.args.input.now) (g.W.Sink.contents c.args.output.now) (g.W.Sink.contents c.send.new.output) c.args.machine.now _ c.args.self.now c.send.new.replies.items (Failed Write)
    c.self.view_is c.send.ensures.takes tt fails_not

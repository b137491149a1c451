-- What was kept is loaded, worked on, sent and stored.
use Rattle.pn_lines.specs.Turns.{held_in, at}
use Rattle.pn_lines.proofs.Turned.{Turned-stored, held_was}
use Rattle.pn_lines.proofs.turns.LineTurns.work_and_send.Goals as goal

pub returns-clause-turns : goal.returns-clause-turns
returns-clause-turns g c =
    let M = g.M.LineHandler in
    let before = g.W.Sink.contents c.args.output.now in
    let worked = c.take_lines-worked in
    let sent = c.send-sent in
    Turned-stored M.handling M.left (at (g.R.Input.remaining c.args.input.now) before c.args.machine.now c.args.self.now) (g.R.Input.remaining worked.new.input) (g.W.Sink.contents sent.new.output) worked.new.machine
    (held_in c.self.inside.engine c.load.new.buffers c.self.inside.source) c.store.new.self worked.new.engine worked.new.source worked.new.buffers sent.new.self worked.result sent.result c.outcome_of.result c.store.result
    (held_was _ c.load.new.self c.args.self.now c.load.new.buffers c.self.view_is c.load.ensures.held) c.requires.none (worked.ensures.works before) sent.ensures.takes sent.ensures.input sent.ensures.all sent.ensures.some c.outcome_of.ensures c.store.ensures

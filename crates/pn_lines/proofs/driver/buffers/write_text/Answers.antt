-- Room is made, and then text.
use Rattle.std.proofs.Common.{ap, ◌∙◌, arith, append-nil}
use Rattle.pn_lines.specs.Driving.{Fails}
use Rattle.pn_lines.specs.Engines.{EngineValue}
use Rattle.pn_lines.proofs.Reading.{Fails-sent, Writes-gave, Writes-sent, Writes-then, on_fault}
use Rattle.pn_lines.proofs.driver.buffers.write_text.Goals as goal

pub returns-in_err-make_room-clause-err : goal.returns-in_err-make_room-clause-err
returns-in_err-make_room-clause-err g c =
    let M = g.M.LineHandler in
    let handling = M.handling in
    let before = g.W.Sink.contents c.args.output.now in
    let after = g.W.Sink.contents c.make_room.new.output in
    let machine = c.args._machine.now in
    on_fault c.from_residual.result (Fails handling before after c.args.replies.now.items machine machine c.args.engine.now c.pieces.engine)
    (Fails-sent handling before (g.W.Sink.contents c.pieces.output) after c.args.replies.now.items c.pieces.replies.items machine machine c.args.engine.now c.pieces.engine c.pieces.invariant.writes c.in_err-make_room.ensures.err
    (c.has_text.ensures.some c.pieces-test.true))

pub pieces-preserved : goal.pieces-preserved
pieces-preserved g c =
    let M = g.M.LineHandler in
    let handling = M.handling in
    let first = g.W.Sink.contents c.args.output.now in
    let before = g.W.Sink.contents c.pieces.output in
    let after = g.W.Sink.contents c.make_room.new.output in
    let machine = c.args._machine.now in
    let was = c.pieces.invariant in
    let sends = c.in_ok-make_room.ensures.ok in
    let gives = c.make_text.ensures.gives in
    let sent = Writes-sent handling before after c.pieces.replies.items c.make_room.new.replies.items sends.sent machine c.pieces.engine sends.appends (sends.whole ∙ append-nil c.pieces.replies.items) in
    let gave = Writes-gave handling after c.make_room.new.replies c.make_text.new.replies machine c.pieces.engine c.make_text.new.self gives c.make_text.ensures.others in
    let room = Writes-then handling first before after c.args.replies.now.items c.pieces.replies.items c.make_room.new.replies.items machine machine machine c.args.engine.now c.pieces.engine c.pieces.engine was.writes sent in
    record {
      writes = Writes-then handling first after after c.args.replies.now.items c.make_room.new.replies.items c.make_text.new.replies.items machine machine machine c.args.engine.now c.pieces.engine c.make_text.new.self room gave;
      others = c.make_text.ensures.others ∙ ap (λ (r : EngineValue g.row.G.Denot). record r { left = c.make_text.new.self.left }) was.others;
      grows = omega (arith, was.grows, c.make_room.ensures.grows, gives.capacity);
    }

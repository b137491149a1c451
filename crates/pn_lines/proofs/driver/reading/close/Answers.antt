-- What waits is written, and no more is read.
use Rattle.std.proofs.Common.{[], false, refl}
use Rattle.pn_line.specs.Line.{so_far}
use Rattle.pn_lines.specs.declared.handler.EndedBy.TheVariants.{Newline}
use Rattle.pn_lines.proofs.Ending.{Ends-cut_settled, Ends-shut}
use Rattle.pn_lines.proofs.Reading.{Reads-cut, Reads-sent, Takes-same}
use Rattle.pn_lines.proofs.driver.reading.close.Goals as goal

pub returns-in-Ok-clause-ends : goal.returns-in-Ok-clause-ends
returns-in-Ok-clause-ends g c = λ start reads.
    let handling = g.M.LineHandler.handling in
    let steady = g.met.M.LineHandler.steady.0 in
    let left = g.S.Source.left c.args._input.now in
    let before = g.W.Sink.contents c.args.output.now in
    let after = g.W.Sink.contents c.hand_out.new.output in
    let none = c.hand_out.ensures.none in
    Ends-shut handling start c.args._engine.now.most left left after c.hand_out.new.replies.items c.args._machine.now c.args._engine.now (so_far []) c.requires.reads (Takes-same left) none c.requires.made steady refl
    (Reads-sent handling start left before after c.args.replies.now.items c.hand_out.new.replies.items false c.args._machine.now c.args._engine.now none c.in-Ok.ensures.ok reads)

pub returns-in-Err-clause-ends : goal.returns-in-Err-clause-ends
returns-in-Err-clause-ends g c = λ start reads.
    let handling = g.M.LineHandler.handling in
    let steady = g.met.M.LineHandler.steady.0 in
    let left = g.S.Source.left c.args._input.now in
    let before = g.W.Sink.contents c.args.output.now in
    let after = g.W.Sink.contents c.hand_out.new.output in
    rw c.in-Err.ensures.fault.0
    (Ends-cut_settled handling start c.args._engine.now.most left after c.in-Err.ensures.err.back false c.args._machine.now c.args._engine.now Newline steady c.requires.reads
    (Reads-cut handling start left before after c.args.replies.now.items false c.args._machine.now c.args._engine.now c.in-Err.ensures.err reads))

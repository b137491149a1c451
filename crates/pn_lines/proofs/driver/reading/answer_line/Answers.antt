-- The line is read and answered, and its text is written as far as there is no room for it.
use Rattle.std.proofs.lemmas.Result.{on_err_weaker, on_ok_weaker}
use Rattle.pn_lines.proofs.Ending.{Ends-cut}
use Rattle.pn_lines.proofs.Reading.{Reads-line, Reads-writes, after_all}
use Rattle.pn_lines.proofs.driver.reading.answer_line.Goals as goal

pub returns-clause-ok : goal.returns-clause-ok
returns-clause-ok g c =
    let M = g.M.LineHandler in
    let handling = M.handling in
    let before = g.W.Sink.contents c.args.output.now in
    let after = g.W.Sink.contents c.settle.new.output in
    on_ok_weaker c.settle.result
    (λ writes. λ start left leaves last takes over closes reads.
    Reads-writes handling start leaves before after c.args.replies.now.items c.settle.new.replies.items last c.take_line.new.machine c.settle.new.machine c.take_line.new.self c.settle.new.engine writes
    (Reads-line handling start left leaves before c.args.replies.now.items last c.args.machine.now c.take_line.new.machine c.args.engine.now c.take_line.new.self c.args.line.now c.args.ended g.met.M.LineHandler.steady.0 c.requires.reads c.requires.made c.requires.few c.requires.short takes over closes c.take_line.ensures.asks reads))
    c.settle.ensures.ok

pub returns-clause-settled : goal.returns-clause-settled
returns-clause-settled g c =
    on_ok_weaker c.settle.result (λ made. (made.0, after_all g.M.LineHandler.left c.args.ended c.settle.new.engine.stage (c.settle.ensures.after c.args.ended c.take_line.ensures.after) made.1)) c.settle.ensures.made

pub returns-clause-err : goal.returns-clause-err
returns-clause-err g c =
    let M = g.M.LineHandler in
    let handling = M.handling in
    let before = g.W.Sink.contents c.args.output.now in
    let after = g.W.Sink.contents c.settle.new.output in
    on_err_weaker c.settle.result
    (λ fails. λ start left leaves last takes over closes reads.
    Ends-cut handling start c.args.engine.now.most leaves after fails.waits last c.settle.new.machine c.settle.new.engine g.met.M.LineHandler.steady.0 fails.some
    (Reads-writes handling start leaves before after c.args.replies.now.items fails.waits last c.take_line.new.machine c.settle.new.machine c.take_line.new.self c.settle.new.engine fails.writes
    (Reads-line handling start left leaves before c.args.replies.now.items last c.args.machine.now c.take_line.new.machine c.args.engine.now c.take_line.new.self c.args.line.now c.args.ended g.met.M.LineHandler.steady.0 c.requires.reads c.requires.made c.requires.few c.requires.short takes over closes c.take_line.ensures.asks reads)))
    c.settle.ensures.err

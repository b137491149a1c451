-- Each way to end, and to go on.
use Rattle.std.proofs.Common.{true, false, refl, sym}
use Rattle.std.proofs.lemmas.Result.{err_from_is_err_and}
use Rattle.std.specs.Prelude.{OnSome}
use Rattle.std.specs.Io.KnownBytes.{IsAtEnd}
use Rattle.pn_lines.specs.declared.handler.EndedBy.TheVariants.{Newline, Input}
use Rattle.pn_lines.proofs.Ending.{Ends-all, Ends-broken, Ends-cut_read, Ends-cut_settled, Ends-exceeded}
use Rattle.pn_lines.proofs.Reading.{Reads-cut, Reads-sent, not_last}
use Rattle.pn_lines.proofs.driver.reading.answer_next.Goals as goal

pub returns-in_err-answer_line-in-Ok-Newline-clause-ends : goal.returns-in_err-answer_line-in-Ok-Newline-clause-ends
returns-in_err-answer_line-in-Ok-Newline-clause-ends g c = λ start reads.
    let M = g.M.LineHandler in
    let handling = M.handling in
    let steady = g.met.M.LineHandler.steady.0 in
    let left = g.S.Source.left c.args.input.now in
    let leaves = g.S.Source.left c.next_line.new.input in
    let written = g.W.Sink.contents c.args.output.now in
    let waited = c.args.replies.now.items in
    let most = c.args.engine.now.most in
    let p = err_from_is_err_and c.from_residual.result c.from_residual.ensures.1 in
    rw (p.1, p.2, c.in_err-answer_line-in-Ok-Newline.ensures.fault.0) (c.in_err-answer_line-in-Ok-Newline.ensures.err start left leaves false (rw c.in-Ok-Newline.field-0-is at c.in-Ok-Newline.ensures.takes) tt (not_last (OnSome left (IsAtEnd leaves))) reads)

pub returns-in_err-hand_out-in-Ok-Newline-clause-ends : goal.returns-in_err-hand_out-in-Ok-Newline-clause-ends
returns-in_err-hand_out-in-Ok-Newline-clause-ends g c = λ start reads.
    let M = g.M.LineHandler in
    let handling = M.handling in
    let steady = g.met.M.LineHandler.steady.0 in
    let left = g.S.Source.left c.args.input.now in
    let leaves = g.S.Source.left c.next_line.new.input in
    let written = g.W.Sink.contents c.args.output.now in
    let waited = c.args.replies.now.items in
    let most = c.args.engine.now.most in
    let read = c.in_ok-answer_line-in-Ok-Newline.ensures.ok start left leaves false (rw c.in-Ok-Newline.field-0-is at c.in-Ok-Newline.ensures.takes) tt (not_last (OnSome left (IsAtEnd leaves))) reads in
    let p = err_from_is_err_and c.from_residual-in_err-hand_out-in-Ok-Newline.result c.from_residual-in_err-hand_out-in-Ok-Newline.ensures.1 in
    let before = g.W.Sink.contents c.answer_line.new.output in
    let after = g.W.Sink.contents c.hand_out.new.output in
    rw (p.1, p.2, c.in_err-hand_out-in-Ok-Newline.ensures.fault.0)
    (Ends-cut_settled handling start most leaves after c.in_err-hand_out-in-Ok-Newline.ensures.err.back false c.answer_line.new.machine c.answer_line.new.engine Newline steady c.in_ok-answer_line-in-Ok-Newline.ensures.settled.1
    (Reads-cut handling start leaves before after c.answer_line.new.replies.items false c.answer_line.new.machine c.answer_line.new.engine c.in_err-hand_out-in-Ok-Newline.ensures.err read))

pub returns-in_err-answer_line-in-Ok-EndOfInput-clause-ends : goal.returns-in_err-answer_line-in-Ok-EndOfInput-clause-ends
returns-in_err-answer_line-in-Ok-EndOfInput-clause-ends g c = λ start reads.
    let M = g.M.LineHandler in
    let handling = M.handling in
    let steady = g.met.M.LineHandler.steady.0 in
    let left = g.S.Source.left c.args.input.now in
    let leaves = g.S.Source.left c.next_line.new.input in
    let written = g.W.Sink.contents c.args.output.now in
    let waited = c.args.replies.now.items in
    let most = c.args.engine.now.most in
    let p = err_from_is_err_and c.from_residual-in_err-answer_line-in-Ok-EndOfInput.result c.from_residual-in_err-answer_line-in-Ok-EndOfInput.ensures.1 in
    rw (p.1, p.2, c.in_err-answer_line-in-Ok-EndOfInput.ensures.fault.0) (c.in_err-answer_line-in-Ok-EndOfInput.ensures.err start left leaves true (rw c.in-Ok-EndOfInput.field-0-is at c.in-Ok-EndOfInput.ensures.takes) (refl, refl) (λ same. (c.in-Ok-EndOfInput.ensures.end c.in-Ok-EndOfInput.field-0-is).1) reads)

pub returns-in_err-hand_out-in-Ok-EndOfInput-clause-ends : goal.returns-in_err-hand_out-in-Ok-EndOfInput-clause-ends
returns-in_err-hand_out-in-Ok-EndOfInput-clause-ends g c = λ start reads.
    let M = g.M.LineHandler in
    let handling = M.handling in
    let steady = g.met.M.LineHandler.steady.0 in
    let left = g.S.Source.left c.args.input.now in
    let leaves = g.S.Source.left c.next_line.new.input in
    let written = g.W.Sink.contents c.args.output.now in
    let waited = c.args.replies.now.items in
    let most = c.args.engine.now.most in
    let read = c.in_ok-answer_line-in-Ok-EndOfInput.ensures.ok start left leaves true (rw c.in-Ok-EndOfInput.field-0-is at c.in-Ok-EndOfInput.ensures.takes) (refl, refl) (λ same. (c.in-Ok-EndOfInput.ensures.end c.in-Ok-EndOfInput.field-0-is).1) reads in
    let p = err_from_is_err_and c.from_residual-in_err-hand_out-in-Ok-EndOfInput.result c.from_residual-in_err-hand_out-in-Ok-EndOfInput.ensures.1 in
    let before = g.W.Sink.contents c.answer_line-in-Ok-EndOfInput.new.output in
    let after = g.W.Sink.contents c.hand_out-in-Ok-EndOfInput.new.output in
    rw (p.1, p.2, c.in_err-hand_out-in-Ok-EndOfInput.ensures.fault.0)
    (Ends-cut_settled handling start most leaves after c.in_err-hand_out-in-Ok-EndOfInput.ensures.err.back true c.answer_line-in-Ok-EndOfInput.new.machine c.answer_line-in-Ok-EndOfInput.new.engine Input steady c.in_ok-answer_line-in-Ok-EndOfInput.ensures.settled.1
    (Reads-cut handling start leaves before after c.answer_line-in-Ok-EndOfInput.new.replies.items true c.answer_line-in-Ok-EndOfInput.new.machine c.answer_line-in-Ok-EndOfInput.new.engine c.in_err-hand_out-in-Ok-EndOfInput.ensures.err read))

pub returns-in_err-hand_out-in-Ok-Endless-clause-ends : goal.returns-in_err-hand_out-in-Ok-Endless-clause-ends
returns-in_err-hand_out-in-Ok-Endless-clause-ends g c = λ start reads.
    let M = g.M.LineHandler in
    let handling = M.handling in
    let steady = g.met.M.LineHandler.steady.0 in
    let left = g.S.Source.left c.args.input.now in
    let leaves = g.S.Source.left c.next_line.new.input in
    let written = g.W.Sink.contents c.args.output.now in
    let waited = c.args.replies.now.items in
    let most = c.args.engine.now.most in
    let p = err_from_is_err_and c.from_residual-in_err-hand_out-in-Ok-Endless.result c.from_residual-in_err-hand_out-in-Ok-Endless.ensures.1 in
    let after = g.W.Sink.contents c.hand_out-in-Ok-Endless.new.output in
    rw (p.1, p.2, c.in_err-hand_out-in-Ok-Endless.ensures.fault.0)
    (Ends-cut_read handling start most left leaves after c.in_err-hand_out-in-Ok-Endless.ensures.err.back c.args.machine.now c.args.engine.now c.next_line.new.line c.requires.reads (rw c.in-Ok-Endless.field-0-is at c.in-Ok-Endless.ensures.takes) steady
    (Reads-cut handling start left written after waited false c.args.machine.now c.args.engine.now c.in_err-hand_out-in-Ok-Endless.ensures.err reads))

pub returns-in_err-hand_out-in-Err-clause-ends : goal.returns-in_err-hand_out-in-Err-clause-ends
returns-in_err-hand_out-in-Err-clause-ends g c = λ start reads.
    let M = g.M.LineHandler in
    let handling = M.handling in
    let steady = g.met.M.LineHandler.steady.0 in
    let left = g.S.Source.left c.args.input.now in
    let leaves = g.S.Source.left c.next_line.new.input in
    let written = g.W.Sink.contents c.args.output.now in
    let waited = c.args.replies.now.items in
    let most = c.args.engine.now.most in
    let p = err_from_is_err_and c.from_residual-in_err-hand_out-in-Err.result c.from_residual-in_err-hand_out-in-Err.ensures.1 in
    let after = g.W.Sink.contents c.hand_out-in-Err.new.output in
    rw (p.1, p.2, c.in_err-hand_out-in-Err.ensures.fault.0)
    (Ends-cut_read handling start most left leaves after c.in_err-hand_out-in-Err.ensures.err.back c.args.machine.now c.args.engine.now c.next_line.new.line c.requires.reads c.in-Err.ensures.kept steady
    (Reads-cut handling start left written after waited false c.args.machine.now c.args.engine.now c.in_err-hand_out-in-Err.ensures.err reads))

pub returns-in_ok-hand_out-in-Ok-Newline-clause-ends : goal.returns-in_ok-hand_out-in-Ok-Newline-clause-ends
returns-in_ok-hand_out-in-Ok-Newline-clause-ends g c = λ start reads.
    let M = g.M.LineHandler in
    let handling = M.handling in
    let steady = g.met.M.LineHandler.steady.0 in
    let left = g.S.Source.left c.args.input.now in
    let leaves = g.S.Source.left c.next_line.new.input in
    let written = g.W.Sink.contents c.args.output.now in
    let waited = c.args.replies.now.items in
    let most = c.args.engine.now.most in
    let read = c.in_ok-answer_line-in-Ok-Newline.ensures.ok start left leaves false (rw c.in-Ok-Newline.field-0-is at c.in-Ok-Newline.ensures.takes) tt (not_last (OnSome left (IsAtEnd leaves))) reads in
    Reads-sent handling start leaves (g.W.Sink.contents c.answer_line.new.output) (g.W.Sink.contents c.hand_out.new.output) c.answer_line.new.replies.items c.hand_out.new.replies.items false c.answer_line.new.machine c.answer_line.new.engine c.hand_out.ensures.none c.in_ok-hand_out-in-Ok-Newline.ensures.ok read

pub returns-else-not-more-clause-ends : goal.returns-else-not-more-clause-ends
returns-else-not-more-clause-ends g c = λ start reads.
    let M = g.M.LineHandler in
    let handling = M.handling in
    let steady = g.met.M.LineHandler.steady.0 in
    let left = g.S.Source.left c.args.input.now in
    let leaves = g.S.Source.left c.next_line.new.input in
    let written = g.W.Sink.contents c.args.output.now in
    let waited = c.args.replies.now.items in
    let most = c.args.engine.now.most in
    c.in_ok-answer_line-in-Ok-Newline.ensures.ok start left leaves false (rw c.in-Ok-Newline.field-0-is at c.in-Ok-Newline.ensures.takes) tt (not_last (OnSome left (IsAtEnd leaves))) reads

pub returns-in_ok-hand_out-in-Ok-EndOfInput-clause-ends : goal.returns-in_ok-hand_out-in-Ok-EndOfInput-clause-ends
returns-in_ok-hand_out-in-Ok-EndOfInput-clause-ends g c = λ start reads.
    let M = g.M.LineHandler in
    let handling = M.handling in
    let steady = g.met.M.LineHandler.steady.0 in
    let left = g.S.Source.left c.args.input.now in
    let leaves = g.S.Source.left c.next_line.new.input in
    let written = g.W.Sink.contents c.args.output.now in
    let waited = c.args.replies.now.items in
    let most = c.args.engine.now.most in
    let read = c.in_ok-answer_line-in-Ok-EndOfInput.ensures.ok start left leaves true (rw c.in-Ok-EndOfInput.field-0-is at c.in-Ok-EndOfInput.ensures.takes) (refl, refl) (λ same. (c.in-Ok-EndOfInput.ensures.end c.in-Ok-EndOfInput.field-0-is).1) reads in
    let after = g.W.Sink.contents c.hand_out-in-Ok-EndOfInput.new.output in
    let machine = c.answer_line-in-Ok-EndOfInput.new.machine in
    let run = c.answer_line-in-Ok-EndOfInput.new.engine in
    let settled = c.in_ok-answer_line-in-Ok-EndOfInput.ensures.settled in
    let none = c.hand_out-in-Ok-EndOfInput.ensures.none in
    rw c.counts.ensures
    (Ends-all handling start most leaves after c.hand_out-in-Ok-EndOfInput.new.replies.items machine run settled.1 none settled.0 (sym c.answer_line-in-Ok-EndOfInput.ensures.most) steady
    (Reads-sent handling start leaves (g.W.Sink.contents c.answer_line-in-Ok-EndOfInput.new.output) after c.answer_line-in-Ok-EndOfInput.new.replies.items c.hand_out-in-Ok-EndOfInput.new.replies.items true machine run none c.in_ok-hand_out-in-Ok-EndOfInput.ensures.ok read))

pub returns-in_ok-hand_out-in-Ok-Endless-clause-ends : goal.returns-in_ok-hand_out-in-Ok-Endless-clause-ends
returns-in_ok-hand_out-in-Ok-Endless-clause-ends g c = λ start reads.
    let M = g.M.LineHandler in
    let handling = M.handling in
    let steady = g.met.M.LineHandler.steady.0 in
    let left = g.S.Source.left c.args.input.now in
    let leaves = g.S.Source.left c.next_line.new.input in
    let written = g.W.Sink.contents c.args.output.now in
    let waited = c.args.replies.now.items in
    let most = c.args.engine.now.most in
    let after = g.W.Sink.contents c.hand_out-in-Ok-Endless.new.output in
    let none = c.hand_out-in-Ok-Endless.ensures.none in
    let read = Reads-sent handling start left written after waited c.hand_out-in-Ok-Endless.new.replies.items false c.args.machine.now c.args.engine.now none c.in_ok-hand_out-in-Ok-Endless.ensures.ok reads in
    Ends-exceeded handling start most left leaves after c.hand_out-in-Ok-Endless.new.replies.items c.args.machine.now c.args.engine.now c.next_line.new.line c.requires.reads (rw c.in-Ok-Endless.field-0-is at c.in-Ok-Endless.ensures.takes) none c.requires.made c.limit_of.result steady refl c.limit_of.ensures.full c.limit_of.ensures.endless (rw c.in-Ok-Endless.field-0-is at c.in-Ok-Endless.ensures.stops) read

pub returns-in_ok-hand_out-in-Err-clause-ends : goal.returns-in_ok-hand_out-in-Err-clause-ends
returns-in_ok-hand_out-in-Err-clause-ends g c = λ start reads.
    let M = g.M.LineHandler in
    let handling = M.handling in
    let steady = g.met.M.LineHandler.steady.0 in
    let left = g.S.Source.left c.args.input.now in
    let leaves = g.S.Source.left c.next_line.new.input in
    let written = g.W.Sink.contents c.args.output.now in
    let waited = c.args.replies.now.items in
    let most = c.args.engine.now.most in
    let after = g.W.Sink.contents c.hand_out-in-Err.new.output in
    let none = c.hand_out-in-Err.ensures.none in
    let read = Reads-sent handling start left written after waited c.hand_out-in-Err.new.replies.items false c.args.machine.now c.args.engine.now none c.in_ok-hand_out-in-Err.ensures.ok reads in
    rw c.in-Err.ensures.fault.0 (Ends-broken handling start most left leaves after c.hand_out-in-Err.new.replies.items c.args.machine.now c.args.engine.now c.next_line.new.line c.requires.reads c.in-Err.ensures.kept none c.requires.made steady read)

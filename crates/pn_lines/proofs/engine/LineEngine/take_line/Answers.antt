-- The line is answered by the bytes of it that were kept.
use Rattle.std.proofs.Common.{ℕ, ap, ◌∙◌}
use Rattle.pn_line.specs.Line.{LineBufferValue}
use Rattle.pn_lines.specs.Engines.{after_answer, with_lines}
use Rattle.pn_lines.specs.Standing.{count_by}
use Rattle.pn_lines.proofs.Reading.{count_by-length}
use Rattle.pn_lines.proofs.engine.LineEngine.take_line.Goals as goal

pub returns-clause-asks : goal.returns-clause-asks
returns-clause-asks g c = λ text is.
    let count = c.lines_in.ensures ∙ ap (λ (l : LineBufferValue). count_by c.args.ended l.count) is ∙ count_by-length c.args.ended text in
    let lines = c.count_lines.ensures ∙ ap (λ (n : ℕ). with_lines n c.args.self.now) count in
    let asks = c.ask.ensures.asks text (c.bytes.ensures ∙ ap (λ (l : LineBufferValue). l.bytes) is) in
    record {
      answer = asks.answer;
      answered = asks.answered;
      has = asks.has ∙ ap (after_answer asks.answer c.args.ended) lines;
    }

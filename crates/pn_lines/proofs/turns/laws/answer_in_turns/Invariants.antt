-- What came, was taken and went so far.
use Rattle.std.proofs.Common.{IfSome, ℕ, List}
use Rattle.pn_lines.specs.Driving.{start_at}
use Rattle.pn_lines.specs.Turns.{Follows, at}
use Rattle.pn_lines.proofs.turns.laws.answer_in_turns.Given as goal

abbrev pub invariant-turns : goal.invariant-turns
invariant-turns g l =
    let before = g.R.Input.remaining l.initial.input in
    IfSome before (λ (bytes : List ℕ). Follows g.M.LineHandler.handling (start_at l.initial.machine before (g.W.Sink.contents l.initial.output)) bytes (at (g.R.Input.remaining l.input) (g.W.Sink.contents l.output) l.machine l.lines))

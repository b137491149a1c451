-- What was written and waits is what was given, and less text is left after each piece.
use Rattle.std.proofs.Common.{◌≡◌, ◌≤◌, length, vec_capacity}
use Rattle.pn_lines.specs.Driving.{Writes}
use Rattle.pn_lines.proofs.driver.buffers.write_text.Given as goal

abbrev pub invariant-pieces : goal.invariant-pieces
invariant-pieces g l = record {
  writes : Writes g.M.LineHandler.handling (g.W.Sink.contents l.initial.output) (g.W.Sink.contents l.output) l.initial.replies.items l.replies.items l._machine l._machine l.initial.engine l.engine;
  others : l.engine ≡ record l.initial.engine { left = l.engine.left };
  grows : vec_capacity l.initial.replies ≤ vec_capacity l.replies;
}

abbrev pub decreases-pieces : goal.decreases-pieces
decreases-pieces g l = length l.engine.left

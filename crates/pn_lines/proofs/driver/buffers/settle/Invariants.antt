-- What was written and waits is what was given, and less of the answer is left each time.
use Rattle.std.proofs.Common.{◌≤◌, vec_capacity}
use Rattle.pn_lines.specs.Driving.{IsAfter, SameLines, Writes}
use Rattle.pn_lines.specs.Engines.{pending_left}
use Rattle.pn_lines.specs.declared.handler.EndedBy.{EndedBy}
use Rattle.pn_lines.proofs.driver.buffers.settle.Given as goal

abbrev pub invariant-answers : goal.invariant-answers
invariant-answers g l = record {
  writes : Writes g.M.LineHandler.handling (g.W.Sink.contents l.initial.output) (g.W.Sink.contents l.output) l.initial.replies.items l.replies.items l.initial.machine l.machine l.initial.engine l.engine;
  after : (ended : EndedBy) → IsAfter ended l.initial.engine.stage → IsAfter ended l.engine.stage;
  same : SameLines l.initial.engine l.engine;
  grows : vec_capacity l.initial.replies ≤ vec_capacity l.replies;
  kept : g.M.LineHandler.keeps l.initial.machine l.machine;
}

abbrev pub decreases-answers : goal.decreases-answers
decreases-answers g l = pending_left g.M.LineHandler.left l.engine.stage

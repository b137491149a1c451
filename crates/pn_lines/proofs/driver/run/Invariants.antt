-- What was read and written so far, and fewer lines may be answered each time.
use Rattle.std.proofs.Common.{◌≡◌, ◌+◌, ◌-◌, ◌≤◌, [], false, vec_capacity}
use Rattle.pn_lines.specs.Driving.{Reads, polls_left, start_at}
use Rattle.pn_lines.specs.declared.engine.state.Stage.TheVariants.{Reading}
use Rattle.pn_lines.specs.declared.finding.TheConstants.{MAX_PIECE_BYTES}
use Rattle.pn_lines.proofs.driver.run.Given as goal

abbrev pub invariant-lines : goal.invariant-lines
invariant-lines g l = record {
  reads : Reads g.M.LineHandler.handling (start_at l.initial.machine (g.S.Source.left l.initial.input) (g.W.Sink.contents l.initial.output)) (g.S.Source.left l.input) (g.W.Sink.contents l.output) l.replies.items false l.machine l.engine;
  stage : l.engine.stage ≡ Reading 0;
  made : l.engine.left ≡ [];
  most : l.engine.most ≡ l.initial.engine.most;
  few : l.engine.counts.lines ≤ l.engine.most;
  polls : g.S.Source.polls l.input + polls_left l.engine.counts.lines l.engine.most ≤ g.S.Source.polls l.initial.input + polls_left 0 l.initial.engine.most;
  room : MAX_PIECE_BYTES ≤ vec_capacity l.replies;
  grows : vec_capacity l.initial.replies ≤ vec_capacity l.replies;
  kept : g.M.LineHandler.keeps l.initial.machine l.machine;
}

abbrev pub decreases-lines : goal.decreases-lines
decreases-lines g l = l.engine.most - l.engine.counts.lines

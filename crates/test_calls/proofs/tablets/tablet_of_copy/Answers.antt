-- The copy keeps its range and its positions, and no position is reached by all cells.
use Rattle.std.proofs.Common.{refl, arith}
use Rattle.test_calls.proofs.tablets.tablet_of_copy.Goals as goal

pub of_parts-requires-clause-inside : goal.of_parts-requires-clause-inside
of_parts-requires-clause-inside c = c.copy.invariant.inside

pub of_parts-requires-clause-reached : goal.of_parts-requires-clause-reached
of_parts-requires-clause-reached c = λ name. rw c.new.ensures (omega arith)

pub of_parts-requires-clause-positions : goal.of_parts-requires-clause-positions
of_parts-requires-clause-positions c = rw c.new.ensures refl

pub of_parts-requires-clause-reach_positions : goal.of_parts-requires-clause-reach_positions
of_parts-requires-clause-reach_positions c = c.copy.invariant.positions

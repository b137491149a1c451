-- What was taken so far went to the line, and each piece is bytes of it.
use Rattle.std.proofs.Common.{◌-◌, []}
use Rattle.pn_line.specs.Line.{Takes}
use Rattle.pn_line.specs.declared.line_buffer.TheConstants.{ENDLESS}
use Rattle.pn_line.proofs.reading.read_bounded_line.Given as goal

abbrev pub invariant-pieces : goal.invariant-pieces
invariant-pieces g l = Takes l.initial.line l.line (g.S.Source.left l.initial.source) (g.S.Source.left l.source) []

abbrev pub decreases-pieces : goal.decreases-pieces
decreases-pieces g l = ENDLESS - l.line.count

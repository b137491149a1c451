-- There is a line after the last that may be answered.
use Rattle.std.proofs.Common.{inr, ap}
use Rattle.std.specs.Prelude.{Ok}
use Rattle.pn_line.specs.Line.{LineBufferValue}
use Rattle.pn_lines.proofs.driver.reading.next_line.Goals as goal

pub returns-in-Ok-true-clause-stops : goal.returns-in-Ok-true-clause-stops
returns-in-Ok-true-clause-stops g c = inr (c.is_full.ensures.0 c.if-is_full.true, ap (λ (l : LineBufferValue). l.count) c.start.ensures, c.in-Ok-true.ensures.more (ap Ok c.in-Ok-true.field-0-test))

-- Past the greatest number is the greatest number.
use Rattle.std.proofs.Common.{arith}
use Rattle.pn_serve.proofs.control.stop.StopTime.after.Goals as goal

pub returns-clause-time : goal.returns-clause-time
returns-clause-time c = omega (arith, c.saturating_mul.ensures, c.saturating_add-time.ensures)

-- The command was done, or the line was refused.
use Rattle.std.proofs.Common.{Err, ap}
use Rattle.pn_serve.proofs.ControlSteps.{steps_said, steps_fault}
use Rattle.pn_serve.proofs.control.session.ControlSession.step.Goals as goal

pub returns-in-Ok : goal.returns-in-Ok
returns-in-Ok g c = steps_said _ _ c.args.line.now _ _ c.in-Ok.ensures.exact c.obey.ensures

pub returns-in-Err : goal.returns-in-Err
returns-in-Err g c = steps_fault _ c.args.line.now _ c.in-Err.ensures.exact (λ is. c.in-Err.ensures.memory (ap Err is))

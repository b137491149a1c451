-- The command was run, or announces lines; or the line was refused.
use Rattle.std.proofs.Common.{Err, ap}
use Rattle.pn_serve.proofs.Announcing.{begun_said}
use Rattle.pn_serve.proofs.Turns.{turned_err}
use Rattle.pn_serve.proofs.machine.run_command.Goals as goal

pub returns-in-Ok : goal.returns-in-Ok
returns-in-Ok g c = begun_said _ _ _ c.args.line.now _ _ _ _ c.in-Ok.ensures.exact c.obey.ensures c.announce.ensures

pub returns-in-Err : goal.returns-in-Err
returns-in-Err g c = turned_err _ c.args.line.now _ _ c.in-Err.ensures.exact (λ is. c.in-Err.ensures.short (ap Err is)) (λ is. c.in-Err.ensures.memory (ap Err is))

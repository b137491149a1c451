-- The last command was run, or the line was refused.
use Rattle.std.proofs.Common.{Err, ap}
use Rattle.pn_serve.proofs.Announcing.{last_obeyed, last_announced, last_err}
use Rattle.pn_serve.proofs.machine.run_last_command.Goals as goal

pub returns-in-Obeyed : goal.returns-in-Obeyed
returns-in-Obeyed g c =
    let begun = rw c.in-Obeyed.is at c.obey.ensures in
    last_obeyed _ _ _ c.args.line.now _ _ c.in-Ok.ensures.exact begun.0 begun.1

pub returns-in-Announces : goal.returns-in-Announces
returns-in-Announces g c =
    let announces = rw c.in-Announces.is at c.obey.ensures in
    last_announced _ _ _ _ c.args.line.now _ _ _ _ c.in-Ok.ensures.exact announces c.new.ensures.items c.adopt.ensures

pub returns-in-Err : goal.returns-in-Err
returns-in-Err g c = last_err _ _ c.args.line.now _ c.in-Err.ensures.exact (λ is. c.in-Err.ensures.short (ap Err is)) (λ is. c.in-Err.ensures.memory (ap Err is))

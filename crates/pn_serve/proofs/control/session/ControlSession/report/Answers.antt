-- The tablets were counted, or one was not entered.
use Rattle.std.specs.Prelude.{Ok, Err}
use Rattle.pn_serve.proofs.control.session.ControlSession.report.Goals as goal

pub returns-in-Ok : goal.returns-in-Ok
returns-in-Ok g c = record { answer = Ok c.in-Ok.tablets; counts = c.in-Ok.ensures.counts; shows = c.show_stats.ensures }

pub returns-in-Err : goal.returns-in-Err
returns-in-Err g c = record { answer = Err c.in-Err.fault; counts = c.in-Err.ensures.counts; shows = c.refuse.ensures }

-- A line that was announced is never read as a command.
use Rattle.pn_serve.proofs.Announcing.{answered_on}
use Rattle.pn_serve.proofs.machine.answer_line.Goals as goal

pub returns-in-Some : goal.returns-in-Some
returns-in-Some g c = answered_on _ _ _ _ c.args.line.now _ _ c.in-Some.is c.take_line.ensures

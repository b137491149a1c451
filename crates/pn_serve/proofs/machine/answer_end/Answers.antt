-- A part of what was announced is never read as a command.
use Rattle.pn_serve.proofs.Announcing.{concluded_on}
use Rattle.pn_serve.proofs.machine.answer_end.Goals as goal

pub returns-in-Some : goal.returns-in-Some
returns-in-Some g c = concluded_on _ _ _ _ c.args.part.now _ _ c.in-Some.is c.take_last_part.ensures

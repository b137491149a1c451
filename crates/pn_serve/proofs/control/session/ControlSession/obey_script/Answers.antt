-- A command was done by whom it is for.
use Rattle.std.proofs.Common.{refl}
use Rattle.pn_serve.proofs.ControlSteps.{done_as}
use Rattle.pn_serve.proofs.control.session.ControlSession.obey_script.Goals as goal

pub returns-in-Announces : goal.returns-in-Announces
returns-in-Announces g c = done_as _ _ _ _ c.task_of.result _ c.task_of.ensures c.in-Announces.is (refl, refl)

pub returns-in-Asks : goal.returns-in-Asks
returns-in-Asks g c = done_as _ _ _ _ c.task_of.result _ c.task_of.ensures c.in-Asks.is (refl, c.ask.ensures)

pub returns-in-LooksUp : goal.returns-in-LooksUp
returns-in-LooksUp g c = done_as _ _ _ _ c.task_of.result _ c.task_of.ensures c.in-LooksUp.is c.look_up.ensures.looks_up

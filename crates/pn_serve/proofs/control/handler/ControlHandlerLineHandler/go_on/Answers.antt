-- No line is resumed, so nothing is looked at.
use Rattle.pn_serve.proofs.Knowing.{knows_itself}
use Rattle.pn_serve.proofs.control.handler.ControlHandlerLineHandler.go_on.Goals as goal

pub returns-clause-kept : goal.returns-clause-kept
returns-clause-kept g c = knows_itself _

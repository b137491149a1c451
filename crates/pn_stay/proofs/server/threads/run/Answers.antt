-- Where no loop begins, the reader is as it was.
use Rattle.pn_serve.proofs.Knowing.{knows_itself}
use Rattle.pn_stay.proofs.server.threads.run.Goals as goal

pub returns-in_err-events : goal.returns-in_err-events
returns-in_err-events g c = knows_itself _

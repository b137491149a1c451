-- There are no marks to advance to.
use Rattle.pn_serve.proofs.Obeying.{advanced_not}
use Rattle.pn_serve.proofs.control.commands.advance.Goals as goal

pub returns-in-Err-clause-obeys : goal.returns-in-Err-clause-obeys
returns-in-Err-clause-obeys c = advanced_not c.args.live.now c.in-Err.fault c.refuse.result c.in-Err.ensures.refused c.refuse.ensures

-- Some commands were done.
use Rattle.std.proofs.Common.{[], None}
use Rattle.pn_serve.specs.declared.server.mailboxes.AtFault.TheVariants.{GoOn}
use Rattle.pn_serve.proofs.server.events.take_commands_for.Goals as goal

pub returns-clause-runs : goal.returns-clause-runs
returns-clause-runs g c = c.obey_all.ensures.told GoOn [] None

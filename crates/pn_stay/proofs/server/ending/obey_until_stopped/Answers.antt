-- Commands come after commands.
use Rattle.pn_serve.proofs.EventsRead.{more_commands}
use Rattle.pn_stay.proofs.server.ending.obey_until_stopped.Goals as goal

pub returns-clause-runs : goal.returns-clause-runs
returns-clause-runs g c = more_commands c.args.live.now c.take_commands-asked.new.live c.run.new.live c.take_commands-asked.ensures.runs c.run.ensures.runs

-- Without control sessions no command is done.
use Rattle.std.proofs.Common.{[], None}
use Rattle.pn_serve.specs.declared.server.mailboxes.AtFault.TheVariants.{GoOn}
use Rattle.pn_serve.proofs.EventsRead.{none_told}
use Rattle.pn_serve.proofs.EventsDone.{reaches_itself, told_reaches}
use Rattle.pn_serve.proofs.server.events.obey_all.Goals as goal

pub returns-in-None-clause-told : goal.returns-in-None-clause-told
returns-in-None-clause-told g c = λ at_fault names waiting. none_told at_fault names waiting c.args.live.now

pub returns-in-None-clause-rise : goal.returns-in-None-clause-rise
returns-in-None-clause-rise g c = reaches_itself c.args.live.now.marks

pub returns-in-Some-clause-rise : goal.returns-in-Some-clause-rise
returns-in-Some-clause-rise g c = told_reaches GoOn [] None c.args.live.now c.obey_all.new.live c.recall_region.ensures (c.obey_all.ensures.told GoOn [] None)

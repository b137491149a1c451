-- The law is a lemma.
use Rattle.pn_serve.proofs.Obeying.{command_leads}
use Rattle.pn_serve.proofs.laws.commands_are_events.Goals as goal

pub returns : goal.returns
returns c = command_leads

-- The laws are lemmas.
use Rattle.pn_live.proofs.Events.{new_core, all_lead}
use Rattle.pn_live.proofs.laws.calls_are_events.Goals as goal

pub returns-clause-opened : goal.returns-clause-opened
returns-clause-opened c = new_core

pub returns-clause-calls : goal.returns-clause-calls
returns-clause-calls c = all_lead

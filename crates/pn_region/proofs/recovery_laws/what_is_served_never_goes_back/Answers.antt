-- The laws are lemmas.
use Rattle.pn_region.proofs.Events.{event_held}
use Rattle.pn_region.proofs.KeptEvents.{events_held}
use Rattle.pn_region.proofs.recovery_laws.what_is_served_never_goes_back.Goals as goal

pub returns-clause-event : goal.returns-clause-event
returns-clause-event c = event_held

pub returns-clause-events : goal.returns-clause-events
returns-clause-events c = λ broker events old new key before after is faithful honest lead there there_too served serves. events_held broker events old new key before after is faithful honest lead there there_too serves

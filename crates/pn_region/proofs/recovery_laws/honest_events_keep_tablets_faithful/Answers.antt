-- The laws are lemmas.
use Rattle.pn_region.proofs.FaithfulEvents.{event_faithful, events_faithful, faithful_at, given_is_honest}
use Rattle.pn_region.proofs.recovery_laws.honest_events_keep_tablets_faithful.Goals as goal

pub returns-clause-event : goal.returns-clause-event
returns-clause-event c = event_faithful

pub returns-clause-events : goal.returns-clause-events
returns-clause-events c = events_faithful

pub returns-clause-given : goal.returns-clause-given
returns-clause-given c = λ broker region tablet state need copy faithful there given. given_is_honest broker state need copy (faithful_at broker tablet region.tablets state faithful there) given

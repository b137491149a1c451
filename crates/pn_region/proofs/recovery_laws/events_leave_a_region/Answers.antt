-- The laws are lemmas.
use Rattle.pn_region.proofs.EventSteps.{event_is, events_are}
use Rattle.pn_region.proofs.recovery_laws.events_leave_a_region.Goals as goal

pub returns-clause-event : goal.returns-clause-event
returns-clause-event c = event_is

pub returns-clause-events : goal.returns-clause-events
returns-clause-events c = events_are

-- The laws are lemmas.
use Rattle.pn_region.proofs.Events.{event_reaches, events_reach, events_reach_at}
use Rattle.pn_region.proofs.recovery_laws.covers_never_fall.Goals as goal

pub returns-clause-event : goal.returns-clause-event
returns-clause-event c = event_reaches

pub returns-clause-events : goal.returns-clause-events
returns-clause-events c = events_reach

pub returns-clause-reaches : goal.returns-clause-reaches
returns-clause-reaches c = events_reach_at

-- The laws are lemmas.
use Rattle.pn_region.proofs.KeptEvents.{not_older, event_record, events_record}
use Rattle.pn_region.proofs.recovery_laws.records_served_never_go_back.Goals as goal

pub returns-clause-event : goal.returns-clause-event
returns-clause-event c = event_record

pub returns-clause-events : goal.returns-clause-events
returns-clause-events c = events_record

pub returns-clause-versions : goal.returns-clause-versions
returns-clause-versions c = not_older

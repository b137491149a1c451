-- The laws are lemmas.
use Rattle.pn_region.proofs.EventImages.{new_tells, events_tell}
use Rattle.pn_region.proofs.recovery_laws.covers_tell_what_events_took.Goals as goal

pub returns-clause-new : goal.returns-clause-new
returns-clause-new c = new_tells

pub returns-clause-events : goal.returns-clause-events
returns-clause-events c = events_tell

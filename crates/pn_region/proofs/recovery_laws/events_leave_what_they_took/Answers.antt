-- The laws are lemmas.
use Rattle.pn_region.proofs.EventImages.{taken_together, rounds_together, new_holds, events_hold}
use Rattle.pn_region.proofs.recovery_laws.events_leave_what_they_took.Goals as goal

pub returns-clause-honest : goal.returns-clause-honest
returns-clause-honest c = taken_together

pub returns-clause-rounds : goal.returns-clause-rounds
returns-clause-rounds c = rounds_together

pub returns-clause-new : goal.returns-clause-new
returns-clause-new c = new_holds

pub returns-clause-events : goal.returns-clause-events
returns-clause-events c = events_hold

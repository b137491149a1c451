-- The laws are lemmas.
use Rattle.pn_serve.proofs.EventsDone.{done_leads, done_records, done_served}
use Rattle.pn_serve.proofs.SentEvents.{did_honestly, honest_events}
use Rattle.pn_serve.proofs.laws.streams_beside_commands_leave_what_was_taken.Goals as goal

pub returns-clause-events : goal.returns-clause-events
returns-clause-events c = done_leads

pub returns-clause-did : goal.returns-clause-did
returns-clause-did c = did_honestly

pub returns-clause-honest : goal.returns-clause-honest
returns-clause-honest c = honest_events

pub returns-clause-records : goal.returns-clause-records
returns-clause-records c = done_records

pub returns-clause-served : goal.returns-clause-served
returns-clause-served c = done_served

-- The laws are lemmas.
use Rattle.pn_serve.proofs.HonestStreams.{batch_is_honest, rest_is_honest, has_published, records_published, records_alike}
use Rattle.pn_serve.proofs.SentEvents.{took_honestly}
use Rattle.pn_serve.proofs.laws.streams_that_resume_leave_what_was_published.Goals as goal

pub returns-clause-honest : goal.returns-clause-honest
returns-clause-honest c = batch_is_honest

pub returns-clause-further : goal.returns-clause-further
returns-clause-further c = rest_is_honest

pub returns-clause-took : goal.returns-clause-took
returns-clause-took c = took_honestly

pub returns-clause-holds : goal.returns-clause-holds
returns-clause-holds c = has_published

pub returns-clause-records : goal.returns-clause-records
returns-clause-records c = records_published

pub returns-clause-alike : goal.returns-clause-alike
returns-clause-alike c = records_alike

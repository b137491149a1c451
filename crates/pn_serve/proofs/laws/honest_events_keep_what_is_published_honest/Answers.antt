-- The laws are lemmas.
use Rattle.pn_serve.proofs.HonestStreams.{did_honest, kept_honest, readers_honest}
use Rattle.pn_serve.proofs.laws.honest_events_keep_what_is_published_honest.Goals as goal

pub returns-clause-kept : goal.returns-clause-kept
returns-clause-kept c = kept_honest

pub returns-clause-published : goal.returns-clause-published
returns-clause-published c = did_honest

pub returns-clause-seen : goal.returns-clause-seen
returns-clause-seen c = readers_honest

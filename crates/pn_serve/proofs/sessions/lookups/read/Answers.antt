-- What the look found is shown.
use Rattle.pn_serve.proofs.sessions.lookups.read.Goals as goal

pub returns-clause-looks_up : goal.returns-clause-looks_up
returns-clause-looks_up c = record { found = c.read-found.ensures.read.0; answer = c.read-found.result; read = c.read-found.ensures.read.1; shows = c.answer_read.ensures }

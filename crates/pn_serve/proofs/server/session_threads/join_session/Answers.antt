-- Who knows no less reads the same tablets.
use Rattle.pn_serve.proofs.server.session_threads.join_session.Goals as goal

pub returns-clause-same : goal.returns-clause-same
returns-clause-same g c = c.join.ensures.tablets

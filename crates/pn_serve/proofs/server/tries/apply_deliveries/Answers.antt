-- A refused round.
use Rattle.pn_serve.proofs.RoundsRead.{refused_by}
use Rattle.pn_serve.proofs.server.tries.apply_deliveries.Goals as goal

pub returns-clause-refused : goal.returns-clause-refused
returns-clause-refused g c = refused_by c.join_shares.result _ _ _ c.requires.continues c.join_shares.ensures.refused c.join_shares.ensures.kept

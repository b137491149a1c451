-- A try is of the deliveries that the shares stand for.
use Rattle.pn_serve.proofs.RoundsRead.{taken_by, tried_so}
use Rattle.pn_serve.proofs.server.tries.try_round.Goals as goal

pub returns-clause-tries : goal.returns-clause-tries
returns-clause-tries g c =
    let round = c.join_shares.ensures in
    tried_so c.join_shares.result c.args.live.now c.args.deliveries.now c.join_shares.new.self c.conclude_try.result c.requires.continues
    (taken_by c.join_shares.result c.args.live.now c.args.deliveries.now c.join_shares.new.self round.ok round.published round.noted)
    round.refused round.kept c.conclude_try.ensures

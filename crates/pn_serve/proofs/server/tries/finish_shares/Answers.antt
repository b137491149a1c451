-- A share that is finished stands for its delivery.
use Rattle.std.proofs.Common.{set, ap, ◌∙◌}
use Rattle.std.proofs.lemmas.List.{set-get_or}
use Rattle.pn_serve.proofs.server.tries.finish_shares.Goals as goal

pub loop-index-preserved : goal.loop-index-preserved
loop-index-preserved c =
    let was = c.loop-index in
    let share = c.index-shares-index.result in
    ap (set was.shares was.index) c.finish.ensures ∙ set-get_or was.shares was.index share ∙ was.invariant

-- A join of one entry raises its position.
use Rattle.std.proofs.Common.{[], ◌∷◌}
use Rattle.std.proofs.lemmas.Result.{on_ok_weaker}
use Rattle.pn_join.proofs.MarksFacts.{raised_from_joined}
use Rattle.pn_join.proofs.marks.raise_at.Goals as goal

pub returns-clause-ok : goal.returns-clause-ok
returns-clause-ok c =
    on_ok_weaker c.join_entry.result (λ is. raised_from_joined c.args.marks.now ((c.args.name, c.args.position) ∷ []) c.join_entry.new.self c.recall_order.ensures c.join_entry.ensures.table.rising is) c.join_entry.ensures.ok

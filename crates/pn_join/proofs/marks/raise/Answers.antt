-- A join of marks raises them.
use Rattle.std.proofs.lemmas.Result.{on_ok_weaker}
use Rattle.pn_join.proofs.MarksFacts.{raised_from_joined}
use Rattle.pn_join.proofs.marks.raise.Goals as goal

pub returns-clause-ok : goal.returns-clause-ok
returns-clause-ok c =
    let valid = c.join_from.ensures.are_valid in
    on_ok_weaker c.join_from.result (λ is. raised_from_joined c.args.marks.now c.args.others.now c.join_from.new.self valid.0.rising valid.2.rising is) c.join_from.ensures.ok

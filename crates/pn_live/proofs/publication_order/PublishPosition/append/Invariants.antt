-- The position is as it was.
use Rattle.std.proofs.Common.{◌≡◌}
use Rattle.pn_live.proofs.publication_order.PublishPosition.append.Given as goal

abbrev pub invariant-loop : goal.invariant-loop
invariant-loop g l =
    (goal.iterator-loop g).can_next l.iterator' × (goal.iterator-loop g).is_finite l.iterator' × (l.self ≡ l.initial.self)

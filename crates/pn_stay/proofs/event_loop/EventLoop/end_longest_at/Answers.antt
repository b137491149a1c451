-- The client is ended that took nothing for longest, and the others are as they were.
use Rattle.std.proofs.Common.{ap, inl, inr, refl, sym, ◌∙◌}
use Rattle.pn_stay.specs.Loops.{unread_in}
use Rattle.pn_stay.proofs.event_loop.EventLoop.end_longest_at.Goals as goal

pub returns-then-is_ended-clause-here : goal.returns-then-is_ended-clause-here
returns-then-is_ended-clause-here g c =
    let (past, same, long) = c.is_ended.ensures.0 c.if-is_ended.true in
    inr (ap unread_in c.end_client.ensures.changed, sym c.quiet_of_client-quarters.ensures ∙ same, long)

pub returns-then-is_ended-clause-others : goal.returns-then-is_ended-clause-others
returns-then-is_ended-clause-others g c = λ other differs. ap unread_in (c.end_client.ensures.others other differs)

pub returns-clause-here : goal.returns-clause-here
returns-clause-here g c = inl refl

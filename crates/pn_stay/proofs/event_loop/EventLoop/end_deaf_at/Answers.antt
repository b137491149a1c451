-- The client is ended, is to try again, or is not there.
use Rattle.std.proofs.Common.{◌∙◌, None, Some, refl}
use Rattle.pn_stay.proofs.Keys.{deaf_by, same_told}
use Rattle.pn_stay.proofs.event_loop.EventLoop.end_deaf_at.Goals as goal

pub returns-in-Some-clause-here : goal.returns-in-Some-clause-here
returns-in-Some-clause-here g c =
    deaf_by _ _ _ (Some c.in-Some.is_deaf) c.in-Some.ensures.here c.in-Some.ensures.deaf (λ is. c.end_or_try.ensures.deaf (same_told is))
    (λ is. c.end_or_try.ensures.hears (same_told is)) (λ is. absurd (cc))

pub returns-in-Some-clause-others : goal.returns-in-Some-clause-others
returns-in-Some-clause-others g c = λ other differs. c.end_or_try.ensures.others other differs ∙ c.in-Some.ensures.others other differs

pub returns-in-None-clause-here : goal.returns-in-None-clause-here
returns-in-None-clause-here g c = deaf_by _ _ _ None c.in-None.ensures.here c.in-None.ensures.deaf (λ is. absurd (cc)) (λ is. absurd (cc)) (λ is. refl)

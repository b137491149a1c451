-- The key is asked for where a content decides.
use Rattle.std.proofs.Common.{◌≡◌, ◌∙◌, ◌&&◌, drop, ap, true}
use Rattle.pn_scan.specs.Shown.{is_asked}
use Rattle.pn_scan.proofs.Looking.{asked_there}
use Rattle.pn_scan.proofs.filter.look_at.Goals as goal

pub returns-clause-known : goal.returns-clause-known
returns-clause-known c = λ known.
    let look = rw (c.conditions.ensures, c.contents.ensures.contents) at c.look_at_contents-look.ensures.known in
    let knows = look known in
    (c.is_shown-shows.ensures ∙ asked_there _ _ _ _ _ c.requires.to knows.0, knows.1, knows.2)

pub returns-clause-stopped : goal.returns-clause-stopped
returns-clause-stopped c = λ stop.
    let look = rw (c.conditions.ensures, c.contents.ensures.contents) at c.look_at_contents-look.ensures.stopped in
    let stops = look stop in
    (ap (λ b. is_asked c.args.query.now c.args.key.now && b) stops.0, stops.1, stops.2)

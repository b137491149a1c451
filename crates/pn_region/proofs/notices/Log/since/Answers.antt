-- The changes kept after the number are the notices, or some were missed.
use Rattle.std.proofs.Common.{List, refl, sym, ap, ◌∙◌, subst}
use Rattle.pn_region.specs.declared.notices.Entry.{Entry}
use Rattle.pn_region.specs.declared.notices.Since.TheVariants.{Notices, Missed}
use Rattle.pn_region.specs.Log.{last_of, IsSince}
use Rattle.pn_region.proofs.LogLaws.{tells, misses}
use Rattle.pn_region.proofs.notices.Log.since.Goals as goal

pub returns-in_ok-copy_notices-in-Some : goal.returns-in_ok-copy_notices-in-Some
returns-in_ok-copy_notices-in-Some c =
    let inside = c.self.inside in
    let list = c.in_ok-copy_notices-in-Some.field-0 in
    subst (λ (es : List Entry). IsSince es c.args.number (Notices c.last_number-next.result list)) c.self.view_is
    (tells inside.entries inside.last c.args.number inside.kept c.self.invariant c.last_number-next.result c.in-Some.index c.len.result list
    (c.last_number-next.ensures ∙ ap last_of (sym c.self.view_is)) c.len.ensures.len c.in-Some.ensures.some c.in_ok-copy_notices-in-Some.ensures)

pub returns-in-None : goal.returns-in-None
returns-in-None c =
    let inside = c.self.inside in
    subst (λ (es : List Entry). IsSince es c.args.number (Missed c.last_number-next.result)) c.self.view_is
    (misses inside.entries inside.last c.args.number inside.kept c.self.invariant c.last_number-next.result c.len.result (c.last_number-next.ensures ∙ ap last_of (sym c.self.view_is)) c.len.ensures.len (c.in-None.ensures.none refl))

-- The tablet of the end is a candidate where it begins before the end; those below it are, and none above it.
use Rattle.std.proofs.Common.{◌+◌, true, false, Some, sym, ap, ◌∙◌}
use Rattle.std.specs.Option.{option_copied}
use Rattle.pn_tablet.specs.Layouts.{tablet_ends, Ends}
use Rattle.pn_scan.specs.Pages.{begins_before}
use Rattle.pn_scan.proofs.CandidateRange.{ends_there}
use Rattle.pn_scan.proofs.pages.end_of.Goals as goal

pub returns-then-begins_before-clause-exact : goal.returns-then-begins_before-clause-exact
returns-then-begins_before-clause-exact c =
    let bounds = c.args.layout.now in
    let key = c.in-Some.to.now in
    let begins = sym c.if-begins_before.true ∙ c.begins_before.ensures ∙ ap (λ (ends : Ends). begins_before ends.0 (Some key)) c.range.ensures.ends ∙ ap (λ n. begins_before (tablet_ends bounds n).0 (Some key)) c.tablet_of-tablet.ensures.tablet in
    λ t within. ap (λ end. begins_before (tablet_ends bounds t).0 end) (ap option_copied c.in-Some.is)
    ∙ ends_there bounds key true (c.tablet_of-tablet.result + 1) c.count-count.ensures.lawful.rising begins (ap (λ n. n + 1) c.tablet_of-tablet.ensures.tablet) t within

pub returns-else-begins_before-clause-exact : goal.returns-else-begins_before-clause-exact
returns-else-begins_before-clause-exact c =
    let bounds = c.args.layout.now in
    let key = c.in-Some.to.now in
    let begins = sym c.if-begins_before.false ∙ c.begins_before.ensures ∙ ap (λ (ends : Ends). begins_before ends.0 (Some key)) c.range.ensures.ends ∙ ap (λ n. begins_before (tablet_ends bounds n).0 (Some key)) c.tablet_of-tablet.ensures.tablet in
    λ t within. ap (λ end. begins_before (tablet_ends bounds t).0 end) (ap option_copied c.in-Some.is)
    ∙ ends_there bounds key false c.tablet_of-tablet.result c.count-count.ensures.lawful.rising begins c.tablet_of-tablet.ensures.tablet t within

-- The candidates are the tablets from the greater of two on, up to the end.
use Rattle.std.proofs.Common.{max, sym, ap, ◌∙◌}
use Rattle.pn_tablet.specs.Layouts.{tablet_ends}
use Rattle.pn_scan.specs.Pages.{first_tablet, begins_before}
use Rattle.pn_scan.proofs.CandidateRange.{candidates_between}
use Rattle.pn_scan.proofs.pages.candidates.Goals as goal

pub returns-clause-all : goal.returns-clause-all
returns-clause-all c =
    let bounds = c.args.layout.now in
    let from = c.first_tablet-from.ensures ∙ ap (first_tablet bounds) c.from.ensures in
    let after = c.first_tablet-after.ensures ∙ ap (first_tablet bounds) c.after.ensures in
    candidates_between bounds c.args.query.now c.max.result c.end_of.result (c.max.ensures ∙ (λ i. max (from i) (after i))) c.end_of.ensures.within
    (λ t within. ap (λ end. begins_before (tablet_ends bounds t).0 end) (sym c.to.ensures) ∙ c.end_of.ensures.exact t within)

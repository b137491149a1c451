-- The same marks raise the reach and the cover.
use Rattle.std.proofs.Common.{unwrap_or, sym, subst}
use Rattle.pn_tablet.specs.Tablets.{IsCoverage}
use Rattle.pn_tablet.proofs.TabletLaws.{both_raised}
use Rattle.pn_tablet.proofs.coverage.Coverage.with_marks.Goals as goal

pub invariant_of-result : goal.invariant_of-result
invariant_of-result c =
    let cover = c.self.inside.cover in
    subst (λ higher. IsCoverage higher higher) (sym c.in_ok-cover.ensures)
    (both_raised cover cover c.args.marks.now (subst (λ ahead. IsCoverage cover (unwrap_or ahead cover)) c.in-None.is c.self.invariant) c.requires)

pub of_parts-requires : goal.of_parts-requires
of_parts-requires c =
    let cover = c.self.inside.cover in
    subst (λ higher. IsCoverage higher c.in_ok-raise_copy-in-Some.field-0) (sym c.in_ok-cover.ensures)
    (subst (IsCoverage _) (sym c.in_ok-raise_copy-in-Some.ensures)
    (both_raised cover c.in-Some.ahead c.args.marks.now (subst (λ ahead. IsCoverage cover (unwrap_or ahead cover)) c.in-Some.is c.self.invariant) c.requires))

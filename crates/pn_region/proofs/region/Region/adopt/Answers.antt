-- The copy's tablet takes it.
use Rattle.std.proofs.Common.{◌≡◌, true, sym, ap, ◌∙◌, subst}
use Rattle.pn_tablet.specs.Steps.{Refuses, is_memory}
use Rattle.pn_region.specs.Recovery.{after_adoption}
use Rattle.pn_region.proofs.Common.{Some, TabletCopyValue, lie_in, Adopt, tablet_for, after_adoption_by, LoggedRegion, RegionValue}
use Rattle.pn_region.proofs.OneTablet.{stands_at, now_lawful, adopted_at, refused_at}
use Rattle.pn_stream.proofs.Runs.{passed_on}
use Rattle.pn_region.proofs.region.Region.adopt.Goals as goal

pub returns-in_default-clause-refused : goal.returns-in_default-clause-refused
returns-in_default-clause-refused c =
    let inside = c.copy.inside in
    let copy : TabletCopyValue = record { range = inside.range; marks = inside.marks; cells = inside.cells } in
    ap (after_adoption c.args.self.now.state) (sym c.copy.view_is) ∙ ap (after_adoption_by c.args.self.now.state copy) (sym c.in_default.ensures)

pub returns-in_err-apply-clause-refused : goal.returns-in_err-apply-clause-refused
returns-in_err-apply-clause-refused c =
    let inside = c.self.inside in
    let old : RegionValue = record { layout = inside.layout; tablets = inside.tablets.items; marks = inside.marks } in
    let found = subst (λ (r : RegionValue). tablet_for r c.args.copy ≡ Some c.in-Some.tablet) (sym (ap (λ (r : LoggedRegion). r.state) c.self.view_is)) (ap (tablet_for c.args.self.now.state) (sym c.copy.view_is) ∙ sym c.in-Some.ensures) in
    let t = c.index_mut.result.now in
    let refusal = c.in_err-apply.field-0.0 in
    passed_on c.from_residual.result refusal (λ fault. Refuses is_memory fault (after_adoption c.args.self.now.state c.args.copy)) c.from_residual.ensures.1
    (subst (λ (r : RegionValue). Refuses is_memory refusal (after_adoption r c.args.copy)) (ap (λ (r : LoggedRegion). r.state) c.self.view_is)
    (refused_at old c.args.copy c.in-Some.tablet t found (stands_at old c.args.copy c.in-Some.tablet t found c.index_mut.ensures.value) refusal c.in_err-apply.ensures.refused))

pub invariant_of-self-2 : goal.invariant_of-self-2
invariant_of-self-2 c =
    let inside = c.self.inside in
    let old : RegionValue = record { layout = inside.layout; tablets = inside.tablets.items; marks = inside.marks } in
    let found = subst (λ (r : RegionValue). tablet_for r c.args.copy ≡ Some c.in-Some.tablet) (sym (ap (λ (r : LoggedRegion). r.state) c.self.view_is)) (ap (tablet_for c.args.self.now.state) (sym c.copy.view_is) ∙ sym c.in-Some.ensures) in
    let t = c.index_mut.result.now in
    now_lawful old c.in-Some.tablet (Adopt c.args.copy) t c.apply.new.self (stands_at old c.args.copy c.in-Some.tablet t found c.index_mut.ensures.value) c.in_ok-apply.ensures.ok
    (subst (λ (copy : TabletCopyValue). lie_in copy.range copy.cells ≡ true) c.copy.view_is c.copy.invariant.inside) c.self.invariant

pub returns-clause-ok : goal.returns-clause-ok
returns-clause-ok c =
    let inside = c.self.inside in
    let old : RegionValue = record { layout = inside.layout; tablets = inside.tablets.items; marks = inside.marks } in
    let found = subst (λ (r : RegionValue). tablet_for r c.args.copy ≡ Some c.in-Some.tablet) (sym (ap (λ (r : LoggedRegion). r.state) c.self.view_is)) (ap (tablet_for c.args.self.now.state) (sym c.copy.view_is) ∙ sym c.in-Some.ensures) in
    let t = c.index_mut.result.now in
    ap (λ (r : RegionValue). after_adoption r c.args.copy) (sym (ap (λ (r : LoggedRegion). r.state) c.self.view_is))
    ∙ adopted_at old c.args.copy c.in-Some.tablet t found (stands_at old c.args.copy c.in-Some.tablet t found c.index_mut.ensures.value) c.apply.new.self c.in_ok-apply.ensures.ok

-- A copy that is adopted.
use Rattle.std.proofs.Common.{◌≡◌, true, refl, sym, ap, ◌∙◌, subst}
use Rattle.pn_record.specs.Cells.{spell}
use Rattle.pn_record.proofs.CellMaps.{held_adds}
use Rattle.pn_tablet.specs.Copies.{TabletCopyValue}
use Rattle.pn_tablet.specs.Tablets.{need_shortfall, TabletStateValue, lie_in, same_range}
use Rattle.pn_tablet.specs.Steps.{step}
use Rattle.pn_tablet.specs.declared.state.TabletOp.TheVariants.{Adopt}
use Rattle.pn_tablet.proofs.Keeping.{kept}
use Rattle.pn_tablet.proofs.JoinLaws.{one_range, adopted_copy, adopt_step}
use Rattle.pn_tablet.proofs.state.TabletState.adopt.Goals as goal

pub invariant_of-self-2 : goal.invariant_of-self-2
invariant_of-self-2 c =
    let joins = c.in_ok-join_and_count.ensures in
    let same : same_range c.self.inside.range c.copy.inside.range ≡ true =
    (λ i. same_range (c.self.view_is i).range (c.copy.view_is i).range) ∙ (adopted_copy c.args.self.now c.args.copy.now c.in_default.ensures).0 in
    kept c.self.invariant
    (subst (λ range. lie_in range c.copy.inside.cells ≡ true) (sym (one_range c.self.inside.range c.copy.inside.range same)) c.copy.invariant.inside)
    (record { rises = joins.rising.1; rising = joins.rising.0; joined = joins.joined })
    (held_adds c.self.inside.cells c.join_and_count.new.self (spell c.copy.inside.cells) joins.rising.0 joins.spelled)
    c.in_ok-coverage.ensures.1.1
    refl

pub returns-clause-ok : goal.returns-clause-ok
returns-clause-ok c =
    let joins = c.in_ok-join_and_count.ensures in
    let tablet : TabletStateValue = record { range = c.self.inside.range; cells = c.self.inside.cells; cover = c.self.inside.coverage.cover; reach = c.self.inside.coverage.reach; status = c.self.inside.status } in
    let copy : TabletCopyValue = record { range = c.copy.inside.range; marks = c.copy.inside.marks; cells = c.copy.inside.cells } in
    let passes = adopted_copy c.args.self.now c.args.copy.now c.in_default.ensures in
    ap (λ (t : TabletStateValue). step t (Adopt c.args.copy.now)) (sym c.self.view_is)
    ∙ ap (λ (k : TabletCopyValue). step tablet (Adopt k)) (sym c.copy.view_is)
    ∙ adopt_step tablet copy c.join_and_count.new.self c.in_ok-coverage.coverage.cover c.in_ok-coverage.coverage.reach
    ((λ i. same_range (c.self.view_is i).range (c.copy.view_is i).range) ∙ passes.0)
    ((λ i. need_shortfall (c.self.view_is i).status (c.copy.view_is i).marks) ∙ passes.1)
    (held_adds c.self.inside.cells c.join_and_count.new.self (spell c.copy.inside.cells) joins.rising.0 joins.spelled)
    c.in_ok-coverage.ensures.0
    c.in_ok-coverage.ensures.1.0

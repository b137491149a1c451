-- Cells that are joined.
use Rattle.std.proofs.Common.{sym, ap, ◌∙◌, arith}
use Rattle.pn_record.specs.Cells.{spell}
use Rattle.pn_record.proofs.CellMaps.{held_adds}
use Rattle.pn_tablet.specs.Tablets.{TabletStateValue}
use Rattle.pn_tablet.specs.Steps.{changes, step}
use Rattle.pn_tablet.specs.declared.state.TabletOp.TheVariants.{Join}
use Rattle.pn_tablet.proofs.Changed.{joined_changes, reported_changes, few_reported}
use Rattle.pn_tablet.proofs.Keeping.{kept}
use Rattle.pn_tablet.proofs.JoinLaws.{join_step}
use Rattle.pn_tablet.proofs.state.TabletState.join.Goals as goal

pub invariant_of-self-2 : goal.invariant_of-self-2
invariant_of-self-2 c =
    let joins = c.in_ok-table_changes.ensures in
    kept c.self.invariant
    (sym c.lie_in.ensures ∙ c.if-not-lie_in.false)
    (record { rises = joins.rising.1; rising = joins.rising.0; joined = joins.joined })
    (held_adds c.self.inside.cells c.join_with_changes.new.self (spell c.args.cells.now) joins.rising.0 joins.spelled)
    c.in_ok-coverage.ensures.1.1
    c.self.invariant.needed_positions

pub returns-clause-ok : goal.returns-clause-ok
returns-clause-ok c =
    let joins = c.in_ok-table_changes.ensures in
    let tablet : TabletStateValue = record { range = c.self.inside.range; cells = c.self.inside.cells; cover = c.self.inside.coverage.cover; reach = c.self.inside.coverage.reach; status = c.self.inside.status } in
    ap (λ (t : TabletStateValue). step t (Join c.args.cells.now c.args.marks.now)) (sym c.self.view_is)
    ∙ join_step tablet c.args.cells.now c.join_with_changes.new.self c.args.marks.now c.in_ok-coverage.coverage.cover c.in_ok-coverage.coverage.reach
    (sym c.lie_in.ensures ∙ c.if-not-lie_in.false)
    (held_adds c.self.inside.cells c.join_with_changes.new.self (spell c.args.cells.now) joins.rising.0 joins.spelled)
    c.in_ok-coverage.ensures.0
    c.in_ok-coverage.ensures.1.0

pub returns-clause-changes : goal.returns-clause-changes
returns-clause-changes c =
    let joins = c.in_ok-table_changes.ensures in
    c.add_changes.ensures
    ∙ reported_changes c.self.inside.cells c.args.cells.now c.in_ok-table_changes.table_changes.items joins.changes
    ∙ joined_changes c.self.inside.cells c.args.cells.now c.join_with_changes.new.self (record { rises = joins.rising.1; rising = joins.rising.0; joined = joins.joined })
    ∙ ap (λ (t : TabletStateValue). changes t.cells c.join_with_changes.new.self) c.self.view_is

pub add_changes-requires-clause-capacity : goal.add_changes-requires-clause-capacity
add_changes-requires-clause-capacity c =
    let few = few_reported c.self.inside.cells c.args.cells.now c.in_ok-table_changes.table_changes.items c.in_ok-table_changes.ensures.changes in
    omega (arith, few, c.len.ensures.count, c.in_ok-changes.ensures.1)

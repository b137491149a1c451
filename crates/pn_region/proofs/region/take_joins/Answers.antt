-- Each tablet takes its join, and what changes is counted.
use Rattle.std.proofs.Common.{List, length, sym, ap, subst, arith}
use Rattle.pn_tablet.specs.Tablets.{TabletStateValue}
use Rattle.pn_apply.specs.Applying.{AreJoinsIn}
use Rattle.pn_apply.proofs.Turns.{all_old}
use Rattle.pn_region.proofs.RoundSteps.{all_told, same_list}
use Rattle.pn_region.proofs.RoundEnds.{none_taken}
use Rattle.pn_region.proofs.region.take_joins.Goals as goal

pub returns-then-not-can_be_counted-clause-err : goal.returns-then-not-can_be_counted-clause-err
returns-then-not-can_be_counted-clause-err g c = none_taken c.args.tablets.now c.args.joins.now c.requires.joins

pub returns-then-not-can_be_counted-clause-left : goal.returns-then-not-can_be_counted-clause-left
returns-then-not-can_be_counted-clause-left g c = all_old c.args.tablets.now c.requires.some

pub apply_all-requires-clause-joins : goal.apply_all-requires-clause-joins
apply_all-requires-clause-joins g c κs within = subst (λ (ts : List TabletStateValue). AreJoinsIn ts c.args.joins.now) (sym (same_list c.args.tablets.now)) c.requires.joins

pub returns-clause-changes : goal.returns-clause-changes
returns-clause-changes g c = all_told c.args.tablets.now c.args.joins.now c.in_ok-lists.lists.items c.in_ok-lists.ensures.changes

pub returns-clause-few : goal.returns-clause-few
returns-clause-few g c =
    let told = ap length (all_told c.args.tablets.now c.args.joins.now c.in_ok-lists.lists.items c.in_ok-lists.ensures.changes) in
    omega (arith, told, c.requires.few, c.can_be_counted.ensures c.if-not-can_be_counted.false)

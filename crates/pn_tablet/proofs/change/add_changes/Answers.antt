-- One more change is added, or none is left.
use Rattle.std.proofs.Common.{◌≡◌, List, [], ◌∷◌, ◌++◌, length, map, sym, ap, ◌∙◌, append-nil, append_assoc, arith, rules}
use Rattle.std.specs.Vec.Iter.{into_iter_items, into_iter_len}
use Rattle.pn_join.proofs.Changing.{none_left}
use Rattle.pn_tablet.specs.Steps.{reported_change}
use Rattle.pn_tablet.specs.declared.change.Change.{Change}
use Rattle.pn_tablet.proofs.change.add_changes.Goals as goal

pub loop-change-init : goal.loop-change-init
loop-change-init c =
    let given = c.into_iter-change-iterator.ensures.into_iter_gives in
    record {
      whole = ap (λ (xs : List Change). xs ++ map reported_change (into_iter_items c.into_iter-change-iterator.result)) c.requires.none;
      capacity = omega (arith, given.1, c.args.table_changes.ok.0, c.requires.capacity, ap length c.requires.none, c.args.changes.now.ok.0);
      len = omega (arith, given.1, ap length given.0, c.args.table_changes.ok.0);
    }

pub push_reserved-requires : goal.push_reserved-requires
push_reserved-requires c =
    let steps = c.in-Some.ensures.steps in
    omega (arith, c.loop-change.invariant.capacity, steps.1)

pub loop-change-preserved : goal.loop-change-preserved
loop-change-preserved c =
    let steps = c.in-Some.ensures.steps in
    let left = into_iter_items c.next.new.self in
    let items : c.push_reserved.new.self.items ≡ c.loop-change.changes.items ++ reported_change c.in-Some.change ∷ [] = c.push_reserved.ensures.items ∙ ap (λ (x : Change). c.loop-change.changes.items ++ x ∷ []) c.change_of.ensures in
    record {
      whole = ap (λ (xs : List Change). xs ++ map reported_change left) items
          ∙ append_assoc c.loop-change.changes.items (reported_change c.in-Some.change ∷ []) (map reported_change left)
          ∙ (rw steps.0 at c.loop-change.invariant.whole);
      capacity = omega (arith, c.loop-change.invariant.capacity, steps.1, c.push_reserved.ensures.len, c.push_reserved.ensures.capacity);
      len = omega (arith, steps.1, ap length steps.0, c.loop-change.invariant.len);
    }

pub returns : goal.returns
returns c =
    let none : into_iter_len c.loop-change.change-iterator ≡ 0 = search rules in
    let empty : into_iter_items c.loop-change.change-iterator ≡ [] = none_left (into_iter_items c.loop-change.change-iterator) (omega (arith, none, c.loop-change.invariant.len)) in
    let whole = rw empty at c.loop-change.invariant.whole in
    sym (append-nil c.loop-change.changes.items) ∙ whole ∙ ap (map reported_change) c.into_iter-change-iterator.ensures.into_iter_gives.0

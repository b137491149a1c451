-- One more node is put back.
use Rattle.std.proofs.Common.{◌≡◌, ◌<◌, ◌∷◌, [], length, get_or, refl, ap, ◌∙◌, sym, arith, rules}
use Rattle.std.specs.Vec.Iter.{into_iter_items, into_iter_len}
use Rattle.pn_join.specs.Nodes.{each_child, node_of}
use Rattle.pn_join.proofs.Changing.{none_left}
use Rattle.pn_join.proofs.Finished.{all_finished, front_list, may_finish, node_and_end, one_finished, one_fits, one_table}
use Rattle.pn_join.proofs.Lasts.{length-mapped}
use Rattle.pn_join.proofs.table.row.opening.OpenRow.finish_row.Goals as goal

pub loop-one-init : goal.loop-one-init
loop-one-init g c =
    let given = c.into_iter-one-iterator.ensures.into_iter_gives in
    let inside = c.self.inside in
    let invariant = c.self.invariant in
    rw given.0 (record {
      finishing = record {
        some = invariant.0.some;
        sizes = invariant.0.leaf_list.sizes;
        counts = invariant.1;
        down = rw (length-mapped (λ child. g.T.Node.leaves (node_of child)) inside.children.items) invariant.2;
        grow = invariant.3;
        whole = ap (λ v. v.1) c.self.view_is;
      };
      len = omega (arith, given.1, ap length given.0, inside.taken.ok.0);
      capacity = omega (arith, invariant.4, inside.children.ok.0);
      some = omega (arith, invariant.6, inside.children.ok.0);
      more = omega (arith, invariant.5, inside.ends.ok.0);
    })

pub finish_child-requires-clause-within : goal.finish_child-requires-clause-within
finish_child-requires-clause-within g c =
    let now = c.loop-one in
    let leaves = g.T.Node.leaves in
    let h = rw c.in-Some.ensures.steps.0 at now.invariant.finishing in
    let both = node_and_end g.T.Node.was g.T.Node.becomes _ c.requires.fits c.in-Some.one (into_iter_items c.next.new.self) (each_child leaves now.children.items) now.ends.items h in
    (omega (arith, both.0, length-mapped (λ child. leaves (node_of child)) now.children.items), both.1)

pub finish_child-requires-clause-capacity : goal.finish_child-requires-clause-capacity
finish_child-requires-clause-capacity g c =
    let steps = c.in-Some.ensures.steps in
    (omega (arith, c.loop-one.invariant.capacity, ap length steps.0), omega (arith, c.loop-one.invariant.more, ap length steps.0))

pub finish_child-requires-clause-table : goal.finish_child-requires-clause-table
finish_child-requires-clause-table g c =
    let now = c.loop-one in
    let nodes = each_child g.T.Node.leaves now.children.items in
    let h = rw c.in-Some.ensures.steps.0 at now.invariant.finishing in (
      one_table g.T.Node.was g.T.Node.becomes _ c.requires.fits c.in-Some.one (into_iter_items c.next.new.self) nodes now.ends.items h g.K.Ord.cmp g.C.Join.valid c.requires.table,
      one_fits g.T.Node.was g.T.Node.becomes _ c.requires.fits c.in-Some.one (into_iter_items c.next.new.self) nodes now.ends.items h,
    )

pub finish_child-requires-clause-counts : goal.finish_child-requires-clause-counts
finish_child-requires-clause-counts g c =
    let now = c.loop-one in
    let h = rw c.in-Some.ensures.steps.0 at now.invariant.finishing in
    may_finish g.T.Node.was g.T.Node.becomes _ c.requires.fits c.in-Some.one (into_iter_items c.next.new.self) (each_child g.T.Node.leaves now.children.items) now.ends.items h

pub insert_hint-requires : goal.insert_hint-requires
insert_hint-requires g c =
    let now = c.loop-one in
    let leaves = g.T.Node.leaves in
    let nodes = each_child leaves now.children.items in
    let h = rw c.in-Some.ensures.steps.0 at now.invariant.finishing in
    let both = node_and_end g.T.Node.was g.T.Node.becomes _ c.requires.fits c.in-Some.one (into_iter_items c.next.new.self) nodes now.ends.items h in
    rw c.deref.ensures.value (
    front_list g.K.Ord.cmp g.C.Join.valid c.in-Some.one.index (g.T.Node.becomes c.in-Some.one.node) nodes (each_child leaves c.finish_child.new.children.items) now.ends.items c.finish_child.new.ends.items both.0
    (one_table g.T.Node.was g.T.Node.becomes _ c.requires.fits c.in-Some.one (into_iter_items c.next.new.self) nodes now.ends.items h g.K.Ord.cmp g.C.Join.valid c.requires.table) c.finish_child.ensures.finished)

pub loop-one-preserved : goal.loop-one-preserved
loop-one-preserved g c =
    let now = c.loop-one in
    let leaves = g.T.Node.leaves in
    let steps = c.in-Some.ensures.steps in
    let h = rw steps.0 at now.invariant.finishing in
    record {
      finishing = one_finished g.T.Node.was g.T.Node.becomes _ c.requires.fits c.in-Some.one (into_iter_items c.next.new.self) (each_child leaves now.children.items) now.ends.items h (each_child leaves c.finish_child.new.children.items) c.finish_child.new.ends.items c.finish_child.ensures.finished;
      len = omega (arith, steps.1, ap length steps.0, now.invariant.len);
      capacity = omega (arith, now.invariant.capacity, ap length steps.0, c.finish_child.ensures.len.0, c.finish_child.ensures.capacity.0);
      some = omega (arith, now.invariant.some, c.finish_child.ensures.len.2);
      more = omega (arith, now.invariant.more, ap length steps.0, c.finish_child.ensures.len.1, c.finish_child.ensures.capacity.1);
    }

pub loop-one-preserved-then-finish_child : goal.loop-one-preserved-then-finish_child
loop-one-preserved-then-finish_child g c =
    let now = c.loop-one in
    let leaves = g.T.Node.leaves in
    let steps = c.in-Some.ensures.steps in
    let h = rw steps.0 at now.invariant.finishing in
    record {
      finishing = one_finished g.T.Node.was g.T.Node.becomes _ c.requires.fits c.in-Some.one (into_iter_items c.next.new.self) (each_child leaves now.children.items) now.ends.items h (each_child leaves c.finish_child.new.children.items) c.finish_child.new.ends.items c.finish_child.ensures.finished;
      len = omega (arith, steps.1, ap length steps.0, now.invariant.len);
      capacity = omega (arith, now.invariant.capacity, ap length steps.0, c.finish_child.ensures.len.0, c.finish_child.ensures.capacity.0);
      some = omega (arith, now.invariant.some, c.finish_child.ensures.len.2);
      more = omega (arith, now.invariant.more, ap length steps.0, c.finish_child.ensures.len.1, c.finish_child.ensures.capacity.1);
    }

pub invariant_of-result : goal.invariant_of-result
invariant_of-result g c =
    let now = c.loop-one in
    let nodes = each_child g.T.Node.leaves now.children.items in
    let empty : into_iter_items now.one-iterator ≡ [] = none_left (into_iter_items now.one-iterator) (omega (arith, c.in-None.ensures.steps.0, now.invariant.len)) in
    let done = rw empty at now.invariant.finishing in
    let all = all_finished g.T.Node.was g.T.Node.becomes g.K.Ord.cmp g.C.Join.valid c.args.self.1 nodes now.ends.items done c.requires.table in
    (all.0, done.counts)

pub returns-clause-put : goal.returns-clause-put
returns-clause-put g c =
    let now = c.loop-one in
    let nodes = each_child g.T.Node.leaves now.children.items in
    let empty : into_iter_items now.one-iterator ≡ [] = none_left (into_iter_items now.one-iterator) (omega (arith, c.in-None.ensures.steps.0, now.invariant.len)) in
    let done = rw empty at now.invariant.finishing in
    let all = all_finished g.T.Node.was g.T.Node.becomes g.K.Ord.cmp g.C.Join.valid c.args.self.1 nodes now.ends.items done c.requires.table in
    all.1

pub returns-clause-some : goal.returns-clause-some
returns-clause-some g c =
    let now = c.loop-one in
    let some : 0 < length (each_child g.T.Node.leaves now.children.items) = omega (arith, now.invariant.some, length-mapped (λ child. g.T.Node.leaves (node_of child)) now.children.items, now.children.ok.0) in
    some

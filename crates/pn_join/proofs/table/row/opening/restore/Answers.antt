-- The node that was taken last is put back first.
use Rattle.std.proofs.Common.{◌≡◌, ◌∷◌, [], ◌++◌, length, set, refl, ap, ◌∙◌, sym, arith}
use Rattle.pn_join.specs.Nodes.{each_child, node_of}
use Rattle.pn_join.specs.Rows.{filled}
use Rattle.pn_join.proofs.Lasts.{length-set, map-set}
use Rattle.pn_join.proofs.Finished.{last_below, put_back, rest_down}
use Rattle.pn_join.proofs.table.row.opening.restore.Goals as goal

pub index_mut-requires : goal.index_mut-requires
index_mut-requires g c =
    let now = c.loop-one in
    omega (arith, last_below now.taken.items c.pop.new.self.items c.in-Some.one (length now.children.items) c.in-Some.ensures.items now.invariant.down, now.children.ok.0)

pub loop-one-preserved : goal.loop-one-preserved
loop-one-preserved g c =
    let now = c.loop-one in
    let leaves = g.T.Node.leaves in
    let sealed = c.seal.result in
    let is = ap leaves c.seal.ensures ∙ c.cancel.ensures in
    record {
      back = ap (filled g.T.Node.was c.pop.new.self.items) (map-set (λ child. leaves (node_of child)) now.children.items c.in-Some.one.index sealed) ∙ put_back g.T.Node.was now.taken.items c.pop.new.self.items c.in-Some.one (each_child leaves now.children.items) (leaves (node_of sealed)) c.in-Some.ensures.items is ∙ now.invariant.back;
      down = rw (length-set now.children.items c.in-Some.one.index sealed) (rest_down now.taken.items c.pop.new.self.items c.in-Some.one (length now.children.items) c.in-Some.ensures.items now.invariant.down);
      len = now.invariant.len;
    }

pub loop-one-preserved-in-Some : goal.loop-one-preserved-in-Some
loop-one-preserved-in-Some g c =
    let now = c.loop-one in
    let leaves = g.T.Node.leaves in
    let sealed = c.seal.result in
    let is = ap leaves c.seal.ensures ∙ c.cancel.ensures in
    record {
      back = ap (filled g.T.Node.was c.pop.new.self.items) (map-set (λ child. leaves (node_of child)) now.children.items c.in-Some.one.index sealed) ∙ put_back g.T.Node.was now.taken.items c.pop.new.self.items c.in-Some.one (each_child leaves now.children.items) (leaves (node_of sealed)) c.in-Some.ensures.items is ∙ now.invariant.back;
      down = rw (length-set now.children.items c.in-Some.one.index sealed) (rest_down now.taken.items c.pop.new.self.items c.in-Some.one (length now.children.items) c.in-Some.ensures.items now.invariant.down);
      len = now.invariant.len;
    }

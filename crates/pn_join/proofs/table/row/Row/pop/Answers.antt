-- The nodes and the counts lose their last items alike.
use Rattle.std.proofs.Common.{◌≡◌, ◌-◌, length, take, vec_len, ap, ◌∙◌, sym, arith}
use Rattle.pn_join.specs.Nodes.{each_child, node_of}
use Rattle.pn_join.proofs.NodeGrowth.{first_nodes}
use Rattle.pn_join.proofs.CountsFacts.{length-ends}
use Rattle.pn_join.proofs.RowEnds.{first_ends, mapped_last}
use Rattle.pn_join.proofs.Lasts.{length-mapped, map-take}
use Rattle.pn_join.proofs.table.row.Row.pop.Goals as goal

pub invariant_of-self : goal.invariant_of-self
invariant_of-self g c =
    let leaves = g.T.Node.leaves in
    let nodes = each_child leaves c.self.inside.children.items in
    let ends = c.self.inside.ends.items in
    let k = vec_len c.self.inside.children - 1 in
    let same : vec_len c.self.inside.ends - 1 ≡ k = omega (arith, c.self.inside.children.ok.0, c.self.inside.ends.ok.0, length-ends nodes ends c.self.invariant.1, length-mapped (λ child. leaves (node_of child)) c.self.inside.children.items) in
    let rest : each_child leaves c.pop-last.new.self.items ≡ take k nodes = ap (each_child leaves) c.pop-last.ensures.rest ∙ map-take (λ child. leaves (node_of child)) k c.self.inside.children.items in
    let left : c.pop.new.self.items ≡ take k ends = c.pop.ensures.rest ∙ ap (λ n. take n ends) same in
    rw (rest, left) (first_nodes g.K.Ord.cmp g.C.Join.valid nodes k c.self.invariant.0, first_ends nodes ends k c.self.invariant.1)

pub returns-clause-last : goal.returns-clause-last
returns-clause-last g c =
    let leaves = g.T.Node.leaves in
    sym c.self.view_is ∙ mapped_last (λ child. leaves (node_of child)) c.self.inside.children.items c.pop-last.new.self.items c.pop-last.result c.pop-last.ensures.items

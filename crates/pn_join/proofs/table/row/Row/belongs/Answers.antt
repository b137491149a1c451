-- A key belongs into the node that has it.
use Rattle.std.proofs.Common.{◌<◌, length, ap, ◌∙◌, sym, arith}
use Rattle.pn_join.specs.NodeLeaves.{in_nodes}
use Rattle.pn_join.specs.Nodes.{node_of}
use Rattle.pn_join.proofs.NodeFacts.{nodes_rising, nodes_some, length-in_nodes}
use Rattle.pn_join.proofs.Lasts.{length-mapped}
use Rattle.pn_join.proofs.Places.{leaf_that_has}
use Rattle.pn_join.proofs.table.row.Row.belongs.Goals as goal

pub returns-in-Ok-clause-node : goal.returns-in-Ok-clause-node
returns-in-Ok-clause-node g c = λ yes.
    let cmp = g.K.Ord.cmp in
    let valid = g.C.Join.valid in
    let nodes = c.args.self.now in
    let list = in_nodes nodes in
    let are = rw c.self.view_is at c.self.invariant.0 in
    let within : c.args.node < length list = omega (arith, c.if-node-len.false, c.len.ensures, length-in_nodes nodes, ap length c.self.view_is, length-mapped (λ child. g.T.Node.leaves (node_of child)) c.self.inside.children.items, c.self.inside.children.ok.0) in
    leaf_that_has cmp c.args.key.now g.met.K.Ord.total list (nodes_some cmp valid nodes are) (nodes_rising cmp valid nodes are) c.args.node c.in-Ok.field-0 within (sym c.in-Ok.is ∙ c.requires.index)

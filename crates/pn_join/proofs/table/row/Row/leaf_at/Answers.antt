-- The leaf stands in the node of its index.
use Rattle.std.proofs.Common.{◌-◌, length, take, slice_get, ap, ◌∙◌, sym}
use Rattle.pn_join.specs.Leaves.{all_entries}
use Rattle.pn_join.proofs.NodeFacts.{node_there, node_missing, leaf_in_node}
use Rattle.pn_join.proofs.table.row.Row.leaf_at.Goals as goal

pub returns-in-Some : goal.returns-in-Some
returns-in-Some g c =
    let nodes = c.args.self.now in
    let index = c.args.index in
    let i = c.node_of_leaf-node.result in
    let here = g.T.Node.leaves c.in-Some.node.now in
    c.leaf.ensures
    ∙ ap (slice_get here) (c.saturating_sub.ensures ∙ ap (λ n. index - n) c.start-start.ensures.leaves)
    ∙ ap (λ node. slice_get node (index - length (all_entries (take i nodes)))) (sym (node_there nodes i here c.in-Some.ensures.node))
    ∙ sym (leaf_in_node nodes index i c.node_of_leaf-node.ensures.node)

pub returns-in-None : goal.returns-in-None
returns-in-None g c =
    let nodes = c.args.self.now in
    let index = c.args.index in
    let i = c.node_of_leaf-node.result in
    ap (λ node. slice_get node (index - length (all_entries (take i nodes)))) (sym (node_missing nodes i c.in-None.ensures.node))
    ∙ sym (leaf_in_node nodes index i c.node_of_leaf-node.ensures.node)

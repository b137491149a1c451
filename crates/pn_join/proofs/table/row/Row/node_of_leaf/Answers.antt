use Rattle.std.proofs.Common.{leb, length, ap, ◌∙◌, sym, arith}
use Rattle.std.specs.List.{prefix_len}
use Rattle.pn_join.specs.Counts.{leaf_ends}
use Rattle.pn_join.specs.Leaves.{counts_after}
use Rattle.pn_join.specs.Nodes.{each_child}
use Rattle.pn_join.proofs.CountsFacts.{leaves_rise}
use Rattle.pn_join.proofs.LeafListIndices.{length-counts}
use Rattle.pn_join.proofs.ListFacts.{prefix_within}
use Rattle.pn_join.proofs.table.row.Row.node_of_leaf.Goals as goal

pub node_of_leaf-requires : goal.node_of_leaf-requires
node_of_leaf-requires g c = rw c.deref.ensures.value (leaves_rise (each_child g.T.Node.leaves c.self.inside.children.items) c.self.inside.ends.items c.self.invariant.1)

pub returns-clause-node : goal.returns-clause-node
returns-clause-node g c =
    c.node_of_leaf.ensures ∙ ap (λ es. prefix_len (λ end. leb end c.args.index) (leaf_ends es)) c.deref.ensures.value
    ∙ ap (prefix_len (λ end. leb end c.args.index)) c.self.invariant.1.leaves.each
    ∙ ap (λ ns. prefix_len (λ end. leb end c.args.index) (counts_after 0 ns)) c.self.view_is

pub returns-clause-within : goal.returns-clause-within
returns-clause-within g c =
    let nodes = c.args.self.now in
    let at = c.node_of_leaf.ensures ∙ ap (λ es. prefix_len (λ end. leb end c.args.index) (leaf_ends es)) c.deref.ensures.value
    ∙ ap (prefix_len (λ end. leb end c.args.index)) c.self.invariant.1.leaves.each
    ∙ ap (λ ns. prefix_len (λ end. leb end c.args.index) (counts_after 0 ns)) c.self.view_is in
    omega (arith, at, prefix_within (λ end. leb end c.args.index) (counts_after 0 nodes), length-counts 0 nodes)

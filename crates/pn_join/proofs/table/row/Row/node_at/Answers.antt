use Rattle.std.proofs.Common.{leb, length, ap, ◌∙◌, sym, arith}
use Rattle.std.specs.List.{prefix_len}
use Rattle.pn_join.specs.NodeLeaves.{in_nodes}
use Rattle.pn_join.specs.Counts.{entry_ends}
use Rattle.pn_join.specs.Leaves.{counts_after}
use Rattle.pn_join.specs.Nodes.{each_child}
use Rattle.pn_join.proofs.NodeFacts.{length-in_nodes}
use Rattle.pn_join.proofs.CountsFacts.{entries_rise}
use Rattle.pn_join.proofs.LeafListIndices.{length-counts}
use Rattle.pn_join.proofs.ListFacts.{prefix_within}
use Rattle.pn_join.proofs.table.row.Row.node_at.Goals as goal

pub node_of_entry-requires : goal.node_of_entry-requires
node_of_entry-requires g c = rw c.deref.ensures.value (entries_rise (each_child g.T.Node.leaves c.self.inside.children.items) c.self.inside.ends.items c.self.invariant.1)

pub returns-clause-node : goal.returns-clause-node
returns-clause-node g c =
    c.node_of_entry.ensures ∙ ap (λ es. prefix_len (λ end. leb end c.args.index) (entry_ends es)) c.deref.ensures.value
    ∙ ap (prefix_len (λ end. leb end c.args.index)) c.self.invariant.1.entries.each
    ∙ ap (λ ns. prefix_len (λ end. leb end c.args.index) (counts_after 0 (in_nodes ns))) c.self.view_is

pub returns-clause-within : goal.returns-clause-within
returns-clause-within g c =
    let nodes = c.args.self.now in
    let at = c.node_of_entry.ensures ∙ ap (λ es. prefix_len (λ end. leb end c.args.index) (entry_ends es)) c.deref.ensures.value
    ∙ ap (prefix_len (λ end. leb end c.args.index)) c.self.invariant.1.entries.each
    ∙ ap (λ ns. prefix_len (λ end. leb end c.args.index) (counts_after 0 (in_nodes ns))) c.self.view_is in
    omega (arith, at, prefix_within (λ end. leb end c.args.index) (counts_after 0 (in_nodes nodes)), length-counts 0 (in_nodes nodes), length-in_nodes nodes)

use Rattle.std.proofs.Common.{length, take, ap, ◌∙◌, arith}
use Rattle.pn_join.specs.NodeLeaves.{in_nodes}
use Rattle.pn_join.specs.Counts.{end_before, entry_ends, leaf_ends}
use Rattle.pn_join.specs.Leaves.{all_entries}
use Rattle.pn_join.specs.Nodes.{each_child}
use Rattle.pn_join.proofs.NodeFacts.{all_in_nodes, length-in_nodes}
use Rattle.pn_join.proofs.CountsFacts.{counted_before, length-ends}
use Rattle.pn_join.proofs.table.row.Row.start.Goals as goal

pub start_of-requires : goal.start_of-requires
start_of-requires g c =
    let nodes = each_child g.T.Node.leaves c.self.inside.children.items in
    omega (arith, c.requires, length-ends nodes c.self.inside.ends.items c.self.invariant.1, ap length c.self.view_is, ap length c.deref.ensures.value)

pub returns-clause-entries : goal.returns-clause-entries
returns-clause-entries g c =
    let nodes = each_child g.T.Node.leaves c.self.inside.children.items in
    c.start_of.ensures.entries ∙ ap (λ es. end_before c.args.index (entry_ends es)) c.deref.ensures.value
    ∙ counted_before (in_nodes nodes) (entry_ends c.self.inside.ends.items) c.self.invariant.1.entries c.args.index (omega (arith, c.requires, length-in_nodes nodes, ap length c.self.view_is))
    ∙ ap (λ ns. length (all_entries (take c.args.index (in_nodes ns)))) c.self.view_is

pub returns-clause-leaves : goal.returns-clause-leaves
returns-clause-leaves g c =
    let nodes = each_child g.T.Node.leaves c.self.inside.children.items in
    c.start_of.ensures.leaves ∙ ap (λ es. end_before c.args.index (leaf_ends es)) c.deref.ensures.value
    ∙ counted_before nodes (leaf_ends c.self.inside.ends.items) c.self.invariant.1.leaves c.args.index (omega (arith, c.requires, ap length c.self.view_is))
    ∙ ap (λ ns. length (all_entries (take c.args.index ns))) c.self.view_is

pub returns-clause-fits : goal.returns-clause-fits
returns-clause-fits g c =
    let nodes = each_child g.T.Node.leaves c.self.inside.children.items in
    rw (← c.self.view_is) (omega (arith, c.self.invariant.1.entries.fits, ap length (all_in_nodes nodes)), c.self.invariant.1.leaves.fits)

use Rattle.std.proofs.Common.{◌≤◌, length, ap, ◌∙◌, arith}
use Rattle.pn_join.specs.NodeLeaves.{in_nodes}
use Rattle.pn_join.specs.Leaves.{all_entries}
use Rattle.pn_join.specs.Nodes.{node_of}
use Rattle.pn_join.proofs.NodeFacts.{all_in_nodes, length-in_nodes, take_whole}
use Rattle.pn_join.proofs.Lasts.{length-mapped}
use Rattle.pn_join.proofs.table.row.Row.all_sizes.Goals as goal

pub start-requires : goal.start-requires
start-requires g c = omega (arith, c.len.ensures, c.self.inside.children.ok.0, ap length c.self.view_is, length-mapped (λ child. g.T.Node.leaves (node_of child)) c.self.inside.children.items)

pub returns-clause-entries : goal.returns-clause-entries
returns-clause-entries g c =
    let nodes = c.args.self.now in
    let n = c.len.result in
    let all : length (in_nodes nodes) ≤ n = omega (arith, c.len.ensures, c.self.inside.children.ok.0, ap length c.self.view_is, length-mapped (λ child. g.T.Node.leaves (node_of child)) c.self.inside.children.items, length-in_nodes nodes) in
    c.start.ensures.entries ∙ ap (λ es. length (all_entries es)) (take_whole (in_nodes nodes) n all) ∙ ap length (all_in_nodes nodes)

pub returns-clause-leaves : goal.returns-clause-leaves
returns-clause-leaves g c =
    let nodes = c.args.self.now in
    let n = c.len.result in
    let all : length nodes ≤ n = omega (arith, c.len.ensures, c.self.inside.children.ok.0, ap length c.self.view_is, length-mapped (λ child. g.T.Node.leaves (node_of child)) c.self.inside.children.items) in
    c.start.ensures.leaves ∙ ap (λ ns. length (all_entries ns)) (take_whole nodes n all)

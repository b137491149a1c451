-- The node that is searched for, or else the last.
use Rattle.std.proofs.Common.{◌≡◌, ◌-◌, leb, length, ap, ◌∙◌, arith}
use Rattle.std.specs.List.{prefix_len}
use Rattle.pn_join.specs.NodeLeaves.{in_nodes}
use Rattle.pn_join.specs.Leaves.{counts_after}
use Rattle.pn_join.specs.Nodes.{node_of}
use Rattle.pn_join.specs.PutAt.{place}
use Rattle.pn_join.proofs.Lasts.{length-mapped}
use Rattle.pn_join.proofs.NodeAt.{node_found}
use Rattle.pn_join.proofs.table.row.Row.node_for.Goals as goal

pub returns-clause-from : goal.returns-clause-from
returns-clause-from g c =
    let nodes = c.args.self.now in
    let last = c.len-last.result - 1 in
    let found : c.node_at.result ≡ prefix_len (λ end. leb end (place c.args.index.now)) (counts_after 0 (in_nodes nodes)) = c.node_at.ensures.node ∙ ap (λ n. prefix_len (λ end. leb end n) (counts_after 0 (in_nodes nodes))) c.place_of.ensures in
    let end : last ≡ length nodes - 1 = omega (arith, c.len-last.ensures, c.self.inside.children.ok.0, ap length c.self.view_is, length-mapped (λ child. g.T.Node.leaves (node_of child)) c.self.inside.children.items) in
    (node_found nodes c.requires.some c.args.index.now c.requires.among c.min.result c.node_at.result last found c.min.ensures end).starts

pub returns-clause-among : goal.returns-clause-among
returns-clause-among g c =
    let nodes = c.args.self.now in
    let last = c.len-last.result - 1 in
    let found : c.node_at.result ≡ prefix_len (λ end. leb end (place c.args.index.now)) (counts_after 0 (in_nodes nodes)) = c.node_at.ensures.node ∙ ap (λ n. prefix_len (λ end. leb end n) (counts_after 0 (in_nodes nodes))) c.place_of.ensures in
    let end : last ≡ length nodes - 1 = omega (arith, c.len-last.ensures, c.self.inside.children.ok.0, ap length c.self.view_is, length-mapped (λ child. g.T.Node.leaves (node_of child)) c.self.inside.children.items) in
    (node_found nodes c.requires.some c.args.index.now c.requires.among c.min.result c.node_at.result last found c.min.ensures end).among

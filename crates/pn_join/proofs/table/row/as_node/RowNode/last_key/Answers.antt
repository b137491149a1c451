-- The last entry is that of the last node.
use Rattle.std.proofs.Common.{◌≡◌, ◌-◌, length, option_map, ap, ◌∙◌, sym, arith}
use Rattle.pn_join.specs.Nodes.{node_of}
use Rattle.pn_join.proofs.Lasts.{length-mapped}
use Rattle.pn_join.proofs.RowEnds.{last_of_row, no_last_of_row}
use Rattle.pn_join.proofs.table.row.as_node.RowNode.last_key.Goals as goal

pub returns-in-Some : goal.returns-in-Some
returns-in-Some g c =
    let nodes = c.args.self.now in
    let i = c.saturating_sub-last.result in
    let at : i ≡ length nodes - 1 = omega (arith, c.saturating_sub-last.ensures, c.len.ensures, c.self.inside.children.ok.0, ap length c.self.view_is, length-mapped (λ child. g.T.Node.leaves (node_of child)) c.self.inside.children.items) in
    let last = last_of_row g.K.Ord.cmp g.C.Join.valid nodes c.recall_row.ensures i (g.T.Node.leaves c.in-Some.node.now) at c.in-Some.ensures.node in
    c.last_key.ensures ∙ ap (option_map (λ e. e.0)) (sym last)

pub returns-in-None : goal.returns-in-None
returns-in-None g c =
    let nodes = c.args.self.now in
    let i = c.saturating_sub-last.result in
    let at : i ≡ length nodes - 1 = omega (arith, c.saturating_sub-last.ensures, c.len.ensures, c.self.inside.children.ok.0, ap length c.self.view_is, length-mapped (λ child. g.T.Node.leaves (node_of child)) c.self.inside.children.items) in
    ap (option_map (λ e. e.0)) (no_last_of_row g.K.Ord.cmp g.C.Join.valid nodes c.recall_row.ensures i at c.in-None.ensures.node)

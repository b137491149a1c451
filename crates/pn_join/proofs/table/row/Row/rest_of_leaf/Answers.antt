-- The entries stand in the node of the first.
use Rattle.std.proofs.Common.{◌≡◌, ◌+◌, ◌-◌, ◌<◌, ◌++◌, suc, length, take, drop, get_or, [], ap, ◌∙◌, sym, refl, arith, append_assoc}
use Rattle.pn_join.specs.NodeLeaves.{in_nodes, entries_in}
use Rattle.pn_join.specs.Leaves.{all_entries}
use Rattle.pn_join.proofs.NodeFacts.{all_in_nodes, at_node, node_there, node_missing, first_of_rest, none_of_rest, rest_in_nodes}
use Rattle.pn_join.proofs.LeafListIndices.{leaf_at, leaf_at-prefix}
use Rattle.pn_join.proofs.SliceFacts.{StandsIn, stands}
use Rattle.pn_join.proofs.table.row.Row.rest_of_leaf.Goals as goal

pub returns-in-Some-clause-first : goal.returns-in-Some-clause-first
returns-in-Some-clause-first g c =
    let nodes = c.args.self.now in
    let index = c.args.index in
    let i = c.node_at-node.result in
    let es = all_entries (g.T.Node.leaves c.in-Some.node.now) in
    let k = c.saturating_sub.result in
    let first = c.entries_from.result.now in
    let at = c.saturating_sub.ensures ∙ ap (λ n. index - n) c.start-start.ensures.entries in
    let here = ap all_entries (node_there nodes i (g.T.Node.leaves c.in-Some.node.now) c.in-Some.ensures.node) in
    let rest = rest_in_nodes nodes index i c.node_at-node.ensures.node
    ∙ ap (λ n. drop n (all_entries (get_or nodes i [])) ++ entries_in (drop (suc i) nodes)) (sym at)
    ∙ ap (λ xs. drop k xs ++ entries_in (drop (suc i) nodes)) here
    ∙ ap (λ xs. xs ++ entries_in (drop (suc i) nodes)) c.entries_from.ensures.first
    ∙ append_assoc first (drop (k + length first) es) (entries_in (drop (suc i) nodes)) in
    first_of_rest (entries_in nodes) first (drop (k + length first) es ++ entries_in (drop (suc i) nodes)) index rest

pub returns-in-Some-clause-some : goal.returns-in-Some-clause-some
returns-in-Some-clause-some g c = λ lt.
    let nodes = c.args.self.now in
    let list = in_nodes nodes in
    let index = c.args.index in
    let i = c.node_at-node.result in
    let at : i ≡ leaf_at 0 index list = c.node_at-node.ensures.node ∙ leaf_at-prefix 0 index list in
    let here : StandsIn list i index = stands list i index at (omega (arith, lt, ap length (all_in_nodes nodes))) in
    let entries = at_node nodes i ∙ ap all_entries (node_there nodes i (g.T.Node.leaves c.in-Some.node.now) c.in-Some.ensures.node) in
    c.entries_from.ensures.some (omega (arith, c.saturating_sub.ensures, c.start-start.ensures.entries, here.starts, here.ends, ap length entries))

pub returns-in-None-clause-first : goal.returns-in-None-clause-first
returns-in-None-clause-first g c = none_of_rest (entries_in c.args.self.now) _ c.args.index refl

pub returns-in-None-clause-some : goal.returns-in-None-clause-some
returns-in-None-clause-some g c = λ lt.
    let nodes = c.args.self.now in
    let list = in_nodes nodes in
    let index = c.args.index in
    let i = c.node_at-node.result in
    let at : i ≡ leaf_at 0 index list = c.node_at-node.ensures.node ∙ leaf_at-prefix 0 index list in
    let here : StandsIn list i index = stands list i index at (omega (arith, lt, ap length (all_in_nodes nodes))) in
    let none = ap length (at_node nodes i ∙ ap all_entries (node_missing nodes i c.in-None.ensures.node)) in
    absurd (omega (arith, here.starts, here.ends, none))

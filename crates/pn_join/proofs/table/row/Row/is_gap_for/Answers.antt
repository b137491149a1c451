-- Where the key lies in the node, and the last key before it, decide.
use Rattle.std.proofs.Common.{◌≡◌, ◌+◌, ◌-◌, ◌<◌, [], get_or, length, ap, ◌∙◌, sym, arith}
use Rattle.pn_join.specs.NodeLeaves.{in_nodes}
use Rattle.pn_join.specs.Leaves.{ends_below}
use Rattle.pn_join.proofs.NodeFacts.{nodes_rising, nodes_some, length-in_nodes}
use Rattle.pn_join.proofs.LeafListSearch.{Rising-leaf, leaf_for-at}
use Rattle.pn_join.proofs.Places.{ends_after}
use Rattle.pn_join.proofs.table.row.Row.is_gap_for.Goals as goal

pub returns-then-is_before_end : goal.returns-then-is_before_end
returns-then-is_before_end g c = λ yes.
    let cmp = g.K.Ord.cmp in
    let valid = g.C.Join.valid in
    let key = c.args.key.now in
    let o = g.met.K.Ord.total in
    let nodes = c.args.self.now in
    let list = in_nodes nodes in
    let node = c.args.node in
    let are = c.recall_row.ensures in
    let rising = nodes_rising cmp valid nodes are in
    let long = length-in_nodes nodes in
    leaf_for-at cmp key o list (nodes_some cmp valid nodes are) rising node (omega (arith, c.requires.node, long))
    (λ i e.
    let at : node - 1 ≡ i = omega (arith, e) in
    ap (λ k. ends_below cmp key (get_or list k [])) (sym at) ∙ c.previous_ends_below.ensures yes (omega (arith, e)))
    (λ more.
    let before : c.args.place < length (get_or list node []) = c.is_before_end.ensures c.if-is_before_end.true (omega (arith, more, long)) in
    ends_after cmp key o (get_or list node []) (Rising-leaf cmp key o list rising node) c.args.place c.requires.place before)

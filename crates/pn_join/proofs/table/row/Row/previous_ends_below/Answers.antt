-- If the key comes after another of this node, the node before it ends below the key.
use Rattle.std.proofs.Common.{◌≡◌, suc, ◌-◌, [], get_or, ap, ◌∙◌, arith}
use Rattle.pn_join.specs.NodeLeaves.{in_nodes}
use Rattle.pn_join.specs.Leaves.{begins_below}
use Rattle.pn_join.proofs.NodeFacts.{nodes_rising, nodes_some}
use Rattle.pn_join.proofs.LeafListSearch.{ends_below-before}
use Rattle.pn_join.proofs.Places.{begins_before}
use Rattle.pn_join.proofs.table.row.Row.previous_ends_below.Goals as goal

pub returns-then-place-gt0 : goal.returns-then-place-gt0
returns-then-place-gt0 g c = λ yes some.
    let cmp = g.K.Ord.cmp in
    let valid = g.C.Join.valid in
    let key = c.args.key.now in
    let o = g.met.K.Ord.total in
    let nodes = c.args.self.now in
    let list = in_nodes nodes in
    let node = c.args.node in
    let are = c.recall_row.ensures in
    let next : suc (node - 1) ≡ node = omega (arith, some) in
    let begins = ap (begins_below cmp key) (ap (λ j. get_or list j []) next) ∙ begins_before cmp key o (get_or list node []) c.args.place c.requires c.if-place-gt0.true in
    ends_below-before cmp key o list (nodes_some cmp valid nodes are) (nodes_rising cmp valid nodes are) (node - 1) begins

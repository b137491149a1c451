use Rattle.std.proofs.Common.{false, is_lt, ap, ◌∙◌, sym}
use Rattle.std.specs.Option.{option_map_or}
use Rattle.pn_join.specs.Leaves.{all_entries, ends_below}
use Rattle.pn_join.proofs.NodeFacts.{at_node, node_there, node_missing}
use Rattle.pn_join.proofs.RowEnds.{ends_by_last}
use Rattle.pn_join.proofs.table.row.Row.ends_below.Goals as goal

pub returns-in-Some : goal.returns-in-Some
returns-in-Some g c =
    let cmp = g.K.Ord.cmp in
    let key = c.args.key.now in
    let nodes = c.args.self.now in
    let node = g.T.Node.leaves c.in-Some.node.now in
    c.is_less.ensures ∙ ap (λ o. option_map_or (λ k. is_lt (cmp k key)) o false) c.last_key.ensures
    ∙ ends_by_last cmp key (all_entries node)
    ∙ ap (ends_below cmp key) (sym (at_node nodes c.args.node ∙ ap all_entries (node_there nodes c.args.node node c.in-Some.ensures.node)))

pub returns-in-None : goal.returns-in-None
returns-in-None g c =
    let nodes = c.args.self.now in
    ap (ends_below g.K.Ord.cmp c.args.key.now) (sym (at_node nodes c.args.node ∙ ap all_entries (node_missing nodes c.args.node c.in-None.ensures.node)))

-- There is nothing in a node past the last.
use Rattle.std.proofs.Common.{ap, ◌∙◌, sym}
use Rattle.std.specs.FinMap.{find}
use Rattle.pn_join.specs.Indices.{index_of}
use Rattle.pn_join.specs.Leaves.{all_entries}
use Rattle.pn_join.proofs.NodeFacts.{at_node, node_missing}
use Rattle.pn_join.proofs.table.row.Row.find_in.Goals as goal

pub returns-in-None-clause-index : goal.returns-in-None-clause-index
returns-in-None-clause-index g c =
    let nodes = c.args.self.now in
    ap (index_of g.K.Ord.cmp c.args.key.now) (sym (at_node nodes c.args.node ∙ ap all_entries (node_missing nodes c.args.node c.in-None.ensures.node)))

pub returns-in-None-clause-found : goal.returns-in-None-clause-found
returns-in-None-clause-found g c =
    let nodes = c.args.self.now in
    ap (find g.K.Ord.cmp c.args.key.now) (sym (at_node nodes c.args.node ∙ ap all_entries (node_missing nodes c.args.node c.in-None.ensures.node)))

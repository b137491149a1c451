use Rattle.pn_join.proofs.NodeFacts.{has_leaves}
use Rattle.pn_join.proofs.table.row.as_node.RowNode.open.Goals as goal

pub open_row-requires-clause-some : goal.open_row-requires-clause-some
open_row-requires-clause-some g c = has_leaves c.args.self c.requires.node.1

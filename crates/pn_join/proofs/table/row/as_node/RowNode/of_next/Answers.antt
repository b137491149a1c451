-- Each node has leaves.
use Rattle.pn_join.proofs.RowEnds.{leaves_there}
use Rattle.pn_join.proofs.table.row.as_node.RowNode.of_next.Goals as goal

pub returns-clause-some : goal.returns-clause-some
returns-clause-some g c = λ some. leaves_there c.in_ok-row.row (c.in_ok-row.ensures.some some) c.recall_row.ensures.some

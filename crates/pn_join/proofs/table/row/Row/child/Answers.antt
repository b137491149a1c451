use Rattle.pn_join.proofs.PutBack.{there_list}
use Rattle.pn_join.proofs.table.row.Row.child.Goals as goal

pub returns-clause-leaf_list : goal.returns-clause-leaf_list
returns-clause-leaf_list g c = there_list g.K.Ord.cmp g.C.Join.valid c.args.self.now c.in_ok-child.ensures.row c.args.index (g.T.Node.leaves c.in_ok-child.child.now) c.in_ok-child.ensures.node

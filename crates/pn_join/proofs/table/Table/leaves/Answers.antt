use Rattle.pn_join.proofs.table.Table.leaves.Goals as goal

pub returns : goal.returns
returns g c = (c.self.view_is, c.recall_leaf_list.ensures.sizes)

use Rattle.pn_join.specs.NodeLeaves.{entries_in}
use Rattle.pn_join.proofs.Places.{valid_found}
use Rattle.pn_join.proofs.table.leaf_list.LeafList.get.Goals as goal

pub returns-clause-is_valid : goal.returns-clause-is_valid
returns-clause-is_valid g c =
    valid_found g.K.Ord.cmp c.args.key.now g.C.Join.valid (entries_in c.self.inside.root) c.find_key.result.1 c.find_key.ensures.found c.find_key.ensures.row.leaf_list.table.contents

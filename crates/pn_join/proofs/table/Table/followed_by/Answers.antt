-- A table and a slice of another are a table if their keys rise.
use Rattle.pn_join.proofs.SliceFacts.{followed}
use Rattle.pn_join.proofs.table.Table.followed_by.Goals as goal

pub push_slice-requires-clause-table : goal.push_slice-requires-clause-table
push_slice-requires-clause-table g c =
    rw (c.self.view_is, c.other.view_is) (followed g.K.Ord.cmp g.C.Join.valid c.args.self c.args.other.now c.args.from c.args.to c.recall_table.ensures c.recall_table-2.ensures c.requires.rising)

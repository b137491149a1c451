-- A slice of keys that rise has keys that rise.
use Rattle.pn_join.proofs.SliceFacts.{slice_rises}
use Rattle.pn_join.proofs.table.Table.slice.Goals as goal

pub followed_by-requires-clause-rising : goal.followed_by-requires-clause-rising
followed_by-requires-clause-rising g c =
    rw c.new.ensures (slice_rises g.K.Ord.cmp g.C.Join.valid c.args.self.now c.args.from c.args.to c.recall_table.ensures.rising)

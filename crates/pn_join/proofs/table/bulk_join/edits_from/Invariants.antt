-- The edits so far, and the other's remaining entries.
use Rattle.pn_join.specs.NodeLeaves.{entries_in}
use Rattle.pn_join.proofs.Changing.{EditsSoFar}
use Rattle.pn_join.proofs.table.bulk_join.edits_from.Given as goal

abbrev pub invariant-loop-key : goal.invariant-loop-key
invariant-loop-key g l = EditsSoFar g.K.Ord.cmp g.C.Join.meaning g.C.Join.joined g.C.Join.valid l.root (entries_in l.other) l.key-iterator l.edits.items

use Rattle.pn_join.specs.Tables.{IsTable}
use Rattle.pn_join.proofs.JoinSteps.{JoinsSoFar}
use Rattle.pn_join.proofs.table.Table.join_with.Given as goal

abbrev pub invariant-loop-key : goal.invariant-loop-key
invariant-loop-key g l = record {
  joins : JoinsSoFar g.K.Ord.cmp g.C.Join.meaning g.C.Join.joined g.C.Join.valid l.self l.other l.key-iterator l.joined;
  table : IsTable g.K.Ord.cmp g.C.Join.valid l.joined;
}

-- The first items are worked, and the later ones are as they were.
use Rattle.std.proofs.Common.{◌≡◌, take, length, vec_capacity}
use Rattle.pn_apply.specs.Applying.{EachOf}
use Rattle.pn_apply.proofs.Turns.{Halfway}
use Rattle.pn_apply.proofs.working.work_alone.Given as goal

abbrev pub invariant-loop-index : goal.invariant-loop-index
invariant-loop-index g l = record {
  items : Halfway (g.W.TabletWork.turns l.fn.task.work.now) l.fn.span.first l.index l.fn.items l.items;
  made : EachOf (g.W.TabletWork.makes l.fn.task.work.now) l.fn.span.first (take l.index l.fn.items) l.results.items;
  count : length l.results.items ≡ l.index;
  capacity : vec_capacity l.results ≡ length l.fn.items;
}

-- What is gathered lies before what is left of both, and all together are the contents of both.
use Rattle.std.proofs.Common.{◌+◌, length}
use Rattle.pn_record.proofs.Sorted.{MergedSoFar}
use Rattle.pn_record.proofs.held_contents.merge_contents.Given as goal

abbrev pub invariant-loop-x : goal.invariant-loop-x
invariant-loop-x l = MergedSoFar l.all.items l.left l.right l.ours l.theirs

abbrev pub decreases-loop-x : goal.decreases-loop-x
decreases-loop-x l = length l.left + length l.right

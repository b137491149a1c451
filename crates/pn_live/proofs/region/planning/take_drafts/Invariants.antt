-- The tablets so far have drafts.
use Rattle.std.proofs.Common.{◌≡◌, map, take, length, vec_capacity}
use Rattle.pn_live.specs.PublishedTablets.{state_at}
use Rattle.pn_live.proofs.region.planning.take_drafts.Given as goal

abbrev pub invariant-loop-number : goal.invariant-loop-number
invariant-loop-number g l = record {
  drafts : l.drafts.items ≡ map state_at (take l.number l.fn.tablets);
  same : l.tablets ≡ l.fn.tablets;
  count : length l.drafts.items ≡ l.number;
  capacity : vec_capacity l.drafts ≡ length l.fn.tablets;
}

-- The tablets so far have ended.
use Rattle.std.proofs.Common.{◌≡◌, ◌++◌, map, length, vec_capacity}
use Rattle.std.specs.Vec.Iter.{into_iter_items, into_iter_len}
use Rattle.pn_live.specs.PublishedTablets.{state_at}
use Rattle.pn_live.proofs.region.closing.take_states.Given as goal

abbrev pub invariant-loop-tablet : goal.invariant-loop-tablet
invariant-loop-tablet g l = record {
  states : l.states.items ++ map state_at (into_iter_items l.rest) ≡ map state_at l.fn.tablets.items;
  count : length (into_iter_items l.rest) ≡ into_iter_len l.rest;
  capacity : vec_capacity l.states ≡ length l.fn.tablets.items;
}

abbrev pub decreases-loop-tablet : goal.decreases-loop-tablet
decreases-loop-tablet g l = into_iter_len l.rest

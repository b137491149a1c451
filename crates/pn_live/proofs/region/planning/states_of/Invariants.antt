-- The states so far are those of the drafts, and there is capacity for those that are left.
use Rattle.std.proofs.Common.{◌≡◌, ◌+◌, ◌++◌, length, vec_capacity}
use Rattle.std.specs.Vec.Iter.{into_iter_items}
use Rattle.pn_live.proofs.region.planning.states_of.Given as goal

abbrev pub invariant-loop-draft : goal.invariant-loop-draft
invariant-loop-draft l = record {
  states : l.states.items ++ into_iter_items l.draft-iterator ≡ l.fn.drafts.items;
  capacity : length l.states.items + length (into_iter_items l.draft-iterator) ≡ vec_capacity l.states;
}

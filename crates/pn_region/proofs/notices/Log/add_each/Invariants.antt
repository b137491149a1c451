-- The changes so far are added.
use Rattle.std.proofs.Common.{◌≡◌, ◌++◌}
use Rattle.std.specs.Vec.Iter.{into_iter_items}
use Rattle.pn_region.specs.Log.{entries_of}
use Rattle.pn_region.proofs.notices.Log.add_each.Given as goal

abbrev pub invariant-loop-change : goal.invariant-loop-change
invariant-loop-change l = l.self ++ entries_of (into_iter_items l.change-iterator) ≡ l.initial.self ++ entries_of l.fn.changes.items

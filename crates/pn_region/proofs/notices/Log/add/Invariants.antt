-- The lists so far are added.
use Rattle.std.proofs.Common.{◌≡◌, ◌++◌}
use Rattle.std.specs.Vec.Iter.{into_iter_items}
use Rattle.pn_region.proofs.Common.{flat_map, entries_of}
use Rattle.pn_region.proofs.notices.Log.add.Given as goal

abbrev pub invariant-loop-list : goal.invariant-loop-list
invariant-loop-list l =
    l.self ++ entries_of (flat_map (λ list. list.items) (into_iter_items l.list-iterator)) ≡ l.initial.self ++ entries_of (flat_map (λ list. list.items) l.fn.lists.items)

-- The changes of the lists so far are counted.
use Rattle.std.proofs.Common.{◌≡◌, length, take}
use Rattle.std.specs.List.{flat_map}
use Rattle.pn_region.proofs.region.count_changes.Given as goal

abbrev pub invariant-loop-list : goal.invariant-loop-list
invariant-loop-list l = l.count ≡ length (flat_map (λ list. list.items) (take l.list-index l.lists))

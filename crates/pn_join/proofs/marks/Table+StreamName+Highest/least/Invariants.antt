-- The marks so far and the least of the rest are the least of all.
use Rattle.std.proofs.Common.{◌≡◌, ◌++◌}
use Rattle.std.specs.List.{filter_map}
use Rattle.pn_join.specs.Marks.{least_at, least_marks}
use Rattle.pn_join.proofs.marks.Table+StreamName+Highest.least.Given as goal

abbrev pub invariant-loop-name : goal.invariant-loop-name
invariant-loop-name l =
    l.both ++ filter_map (least_at l.self l.others) l.name-iterator ≡ least_marks l.self l.others

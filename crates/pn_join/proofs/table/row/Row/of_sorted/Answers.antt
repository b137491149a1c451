-- One more node, until no entry is left.
use Rattle.std.proofs.Common.{◌≡◌, ◌<◌, length, arith}
use Rattle.std.proofs.lemmas.Bool.Decides.{nat_tests}
use Rattle.pn_join.specs.NodeLeaves.{entries_in}
use Rattle.pn_join.proofs.Building.{all_are}
use Rattle.pn_join.proofs.table.row.Row.of_sorted.Goals as goal

pub returns : goal.returns
returns g c =
    let none : length c.loop-row.left.items ≡ 0 = grind (arith, nat_tests) in
    all_are (entries_in c.loop-row.row) c.loop-row.left.items c.args.entries.items c.loop-row.invariant none

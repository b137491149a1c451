-- The node ends where the next begins.
use Rattle.std.proofs.Common.{◌-◌, ◌<◌, arith}
use Rattle.std.proofs.lemmas.Bool.Decides.{nat_tests}
use Rattle.pn_join.specs.NodeLeaves.{in_nodes}
use Rattle.pn_join.proofs.NodeAt.{take_next}
use Rattle.pn_join.proofs.table.row.Row.is_before_end.Goals as goal

pub overflow_sub-result : goal.overflow_sub-result
overflow_sub-result g c = omega (arith, c.start.ensures.entries, c.start-2.ensures.entries, take_next (in_nodes c.args.self.now) c.args.node)

pub returns : goal.returns
returns g c = λ yes more.
    let lt : c.args.place < c.start.result.entries - c.start-2.result.entries = grind (arith, nat_tests) in
    omega (arith, lt, c.start.ensures.entries, c.start-2.ensures.entries, take_next (in_nodes c.args.self.now) c.args.node)

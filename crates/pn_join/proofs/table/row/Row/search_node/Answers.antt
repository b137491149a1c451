-- The node before the one that is found ends below the key, and that one does not, or is the last.
use Rattle.std.proofs.Common.{◌≡◌, ◌-◌, ◌<◌, [], length, get_or, ap, ◌∙◌, sym, arith}
use Rattle.pn_join.specs.NodeLeaves.{in_nodes}
use Rattle.pn_join.specs.Leaves.{ends_below, leaf_for}
use Rattle.pn_join.proofs.NodeAt.{searched}
use Rattle.pn_join.proofs.table.row.Row.search_node.Goals as goal

pub returns-clause-node : goal.returns-clause-node
returns-clause-node g c =
    let now = c.loop-low in
    searched g.K.Ord.cmp g.C.Join.valid c.args.key.now g.met.K.Ord.total c.args.self.now (rw c.self.view_is at c.self.invariant.0) now.low now.high c.loop-low-test.false now.invariant.order now.invariant.within now.invariant.before now.invariant.here

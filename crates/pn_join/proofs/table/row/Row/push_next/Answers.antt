-- The next entries become a node after all others.
use Rattle.std.proofs.Common.{◌<◌, ◌++◌, length, reverse, refl, ap}
use Rattle.std.proofs.lemmas.Result.{on_ok_weaker}
use Rattle.pn_join.specs.NodeLeaves.{entries_in}
use Rattle.pn_join.specs.Leaves.{all_entries}
use Rattle.pn_join.specs.Nodes.{node_of}
use Rattle.pn_join.proofs.NodeGrowth.{IsTable-back}
use Rattle.pn_join.proofs.Building.{fewer_left, made_has, part_table}
use Rattle.pn_join.proofs.table.row.Row.push_next.Goals as goal

pub of_next-requires : goal.of_next-requires
of_next-requires g c = IsTable-back g.K.Ord.cmp g.C.Join.valid (entries_in c.args.self.now) (reverse c.args.left.now.items) c.requires.table

pub push-requires-clause-table : goal.push-requires-clause-table
push-requires-clause-table g c =
    let leaves = g.T.Node.leaves in
    let now = entries_in c.args.self.now in
    let left = reverse c.args.left.now.items in
    part_table g.K.Ord.cmp g.C.Join.valid now (all_entries (leaves (node_of c.seal.result))) (all_entries (leaves c.in_ok-node.node)) (reverse c.of_next.new.left.items) left (now ++ left) (ap (λ n. all_entries (leaves n)) c.seal.ensures) c.in_ok-node.ensures.parted refl c.requires.table

pub returns-clause-fewer : goal.returns-clause-fewer
returns-clause-fewer g c =
    let node = g.T.Node.leaves c.in_ok-node.node in
    let some : 0 < length (all_entries node) = made_has node c.in_ok-node.ensures.sizes (c.in_ok-node.ensures.some c.requires.some) in
    on_ok_weaker c.push.result (λ pushed. fewer_left (all_entries node) c.of_next.new.left.items c.args.left.now.items c.in_ok-node.ensures.parted some) c.push.ensures.ok

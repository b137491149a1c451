-- The leaf is changed, or cut in two.
use Rattle.std.proofs.Common.{◌<◌, length, option_map, ap, arith}
use Rattle.pn_join.specs.Nodes.{leaf_of}
use Rattle.pn_join.proofs.LeafFacts.{has_entries, one_leaf}
use Rattle.pn_join.proofs.PutAtFacts.{put_at-grows}
use Rattle.pn_join.proofs.table.leaf.VecTuple2Node.join_at.Goals as goal

pub returns-clause-one : goal.returns-clause-one
returns-clause-one g c =
    let old = c.args.self.now.items in
    let is = c.in_ok-join_one.ensures.ok in
    let had : 0 < length old = has_entries old c.requires.node.1 in
    let some : 0 < length c.join_one.new.entries.items = omega (arith, had, (put_at-grows c.args.index c.args.key is.value old).0, ap length is.put) in
    one_leaf old c.halve_if_long.new.items.items c.halve_if_long.new.back.items (option_map (λ leaf. leaf_of leaf.items) c.if_some.result) c.if_some.ensures.leaf had (c.halve_if_long.ensures.some some)

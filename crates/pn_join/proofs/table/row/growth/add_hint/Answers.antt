use Rattle.std.proofs.Common.{◌<◌, length, arith}
use Rattle.pn_join.specs.Nodes.{each_child, node_of}
use Rattle.pn_join.proofs.Lasts.{length-mapped}
use Rattle.pn_join.proofs.PutBack.{node_list}
use Rattle.pn_join.proofs.table.row.growth.add_hint.Goals as goal

pub insert_hint-requires : goal.insert_hint-requires
insert_hint-requires g c =
    let leaves = g.T.Node.leaves in
    let children = c.args.children.now in
    let lt : c.len-known.result < length (each_child leaves children) = omega (arith, length-mapped (λ child. leaves (node_of child)) children) in
    node_list g.K.Ord.cmp g.C.Join.valid (each_child leaves children) c.requires c.len-known.result lt

-- The front is put back, and both parts are counted.
use Rattle.std.proofs.Common.{◌≡◌, ◌+◌, ◌<◌, [], length, get_or, set, option_map, ap, ◌∙◌, sym, arith}
use Rattle.std.specs.Option.{option_to_list}
use Rattle.pn_join.specs.Nodes.{each_child, node_of}
use Rattle.pn_join.specs.Rows.{inserted_at}
use Rattle.pn_join.proofs.Lasts.{length-mapped, map-set, there_now}
use Rattle.pn_join.proofs.PutBack.{parts_lists}
use Rattle.pn_join.proofs.table.row.opening.finish_child.Goals as goal

pub count_anew-requires-clause-leaf_lists : goal.count_anew-requires-clause-leaf_lists
count_anew-requires-clause-leaf_lists g c =
    let leaves = g.T.Node.leaves in
    let old = c.args.children.now.items in
    let i = c.args.one.index in
    let inside : i < length (each_child leaves old) = omega (arith, c.requires.within.0, length-mapped (λ child. leaves (node_of child)) old) in
    let now : get_or (each_child leaves (set old i c.seal.result)) i [] ≡ leaves c.finish-front.result.0 = there_now (λ child. leaves (node_of child)) old i c.seal.result [] inside ∙ ap leaves c.seal.ensures in
    rw now (parts_lists g.K.Ord.cmp g.C.Join.valid (leaves c.finish-front.result.0) (option_map leaves c.finish-front.result.1) c.finish-front.ensures.parts (rw c.finish-front.ensures.put c.requires.table.0))

pub count_anew-requires-clause-counts : goal.count_anew-requires-clause-counts
count_anew-requires-clause-counts g c =
    let leaves = g.T.Node.leaves in
    let old = c.args.children.now.items in
    let i = c.args.one.index in
    let inside : i < length (each_child leaves old) = omega (arith, c.requires.within.0, length-mapped (λ child. leaves (node_of child)) old) in
    let now : get_or (each_child leaves (set old i c.seal.result)) i [] ≡ leaves c.finish-front.result.0 = there_now (λ child. leaves (node_of child)) old i c.seal.result [] inside ∙ ap leaves c.seal.ensures in
    rw now (c.requires.counts (leaves c.finish-front.result.0) (option_map leaves c.finish-front.result.1) c.finish-front.ensures.put c.finish-front.ensures.parts)

pub returns-clause-finished : goal.returns-clause-finished
returns-clause-finished g c =
    let leaves = g.T.Node.leaves in
    let old = c.args.children.now.items in
    let nodes = each_child leaves old in
    let i = c.args.one.index in
    let back = option_map leaves c.finish-front.result.1 in
    let inside : i < length nodes = omega (arith, c.requires.within.0, length-mapped (λ child. leaves (node_of child)) old) in
    let now : get_or (each_child leaves (set old i c.seal.result)) i [] ≡ leaves c.finish-front.result.0 = there_now (λ child. leaves (node_of child)) old i c.seal.result [] inside ∙ ap leaves c.seal.ensures in
    record {
      front = leaves c.finish-front.result.0;
      back = back;
      put = c.finish-front.ensures.put;
      parts = c.finish-front.ensures.parts;
      inserted = c.count_anew.ensures.nodes ∙ ap (inserted_at (i + 1) (option_to_list back)) (map-set (λ child. leaves (node_of child)) old i c.seal.result ∙ ap (λ n. set nodes i (leaves n)) c.seal.ensures);
      counts = rw now at c.count_anew.ensures.counts;
    }

-- The nodes and the counts get their last items alike.
use Rattle.std.proofs.Common.{◌≡◌, ◌+◌, ◌^◌, ◌<◌, ◌++◌, ◌∷◌, [], length, ap, ◌∙◌, arith}
use Rattle.pn_join.specs.NodeLeaves.{in_nodes, entries_in}
use Rattle.pn_join.specs.Counts.{entry_ends, leaf_ends}
use Rattle.pn_join.specs.Leaves.{all_entries, IsLeafList}
use Rattle.pn_join.specs.Nodes.{each_child, node_of}
use Rattle.pn_join.specs.Tables.{IsTable}
use Rattle.pn_join.specs.declared.table.counts.Sizes.{Sizes}
use Rattle.pn_join.proofs.NodeFacts.{all_in_nodes}
use Rattle.pn_join.proofs.NodeGrowth.{IsTable-back, in_nodes-push, pushed_nodes}
use Rattle.pn_join.proofs.Lasts.{map-push}
use Rattle.pn_join.proofs.LeafFacts.{pushed_counts}
use Rattle.pn_join.proofs.table.row.Row.push.Goals as goal

pub sizes-more-requires : goal.sizes-more-requires
sizes-more-requires g c =
    let leaves = g.T.Node.leaves in
    rw c.node.ensures (record {
      sizes = c.requires.sizes;
      table = IsTable-back g.K.Ord.cmp g.C.Join.valid (entries_in c.args.self.now) (all_entries (leaves (node_of c.args.child))) c.requires.table;
    })

pub invariant_of-self-2 : goal.invariant_of-self-2
invariant_of-self-2 g c =
    let leaves = g.T.Node.leaves in
    let own = each_child leaves c.self.inside.children.items in
    let node = leaves (node_of c.args.child) in
    let ends = c.self.inside.ends.items in
    let items : each_child leaves c.push_reserved.new.self.items ≡ own ++ node ∷ [] =
    ap (each_child leaves) (c.push_reserved.ensures.items ∙ ap (λ cs. cs ++ c.args.child ∷ []) c.in_ok-reserve.ensures.items) ∙ map-push (λ child. leaves (node_of child)) c.self.inside.children.items c.args.child in
    let end : Sizes = record { entries = c.in-Some.entries; leaves = c.in-Some-checked_add.leaves } in
    let new_ends : c.push_reserved-2.new.self.items ≡ ends ++ end ∷ [] = c.push_reserved-2.ensures.items ∙ ap (λ es. es ++ end ∷ []) c.in_ok-reserve-2.ensures.items in
    let sum : c.in-Some.entries ≡ c.all_sizes-all.result.entries + c.sizes-more.result.entries = c.in-Some.ensures.1 in
    let sum_leaves : c.in-Some-checked_add.leaves ≡ c.all_sizes-all.result.leaves + c.sizes-more.result.leaves = c.in-Some-checked_add.ensures.1 in
    let added = c.sizes-more.ensures.entries ∙ ap (λ n. length (all_entries (leaves n))) c.node.ensures in
    let added_leaves = c.sizes-more.ensures.leaves ∙ ap (λ n. length (leaves n)) c.node.ensures in
    let entries : c.in-Some.entries ≡ length (all_entries (in_nodes own)) + length (all_entries node) = omega (arith, sum, added, c.all_sizes-all.ensures.entries, ap length (all_in_nodes own), ap (λ ns. length (entries_in ns)) c.self.view_is) in
    let leaves_are : c.in-Some-checked_add.leaves ≡ length (all_entries own) + length node = omega (arith, sum_leaves, added_leaves, c.all_sizes-all.ensures.leaves, ap (λ ns. length (all_entries ns)) c.self.view_is) in
    let fits : c.in-Some.entries < 2 ^ 64 = rw sum c.in-Some.ensures.0 in
    let few : c.in-Some-checked_add.leaves < 2 ^ 64 = rw sum_leaves c.in-Some-checked_add.ensures.0 in
    rw (items, new_ends) (
      pushed_nodes g.K.Ord.cmp g.C.Join.valid own node c.self.invariant.0 c.requires.sizes c.requires.some (rw (← c.self.view_is) at c.requires.table),
      record {
        entries = rw (in_nodes-push own node, map-push (λ (e : Sizes). e.entries) ends end) (pushed_counts (in_nodes own) (all_entries node) (entry_ends ends) c.in-Some.entries c.self.invariant.1.entries entries fits);
        leaves = rw (map-push (λ (e : Sizes). e.leaves) ends end) (pushed_counts own node (leaf_ends ends) c.in-Some-checked_add.leaves c.self.invariant.1.leaves leaves_are few);
      },
    )

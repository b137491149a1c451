-- One more node is counted.
use Rattle.std.proofs.Common.{◌≡◌, ◌+◌, ◌<◌, ◌≤◌, length, get_or, ap, ◌∙◌, sym, subst, arith}
use Rattle.pn_join.specs.Leaves.{all_entries, IsLeafList}
use Rattle.pn_join.specs.Nodes.{each_child, node_of}
use Rattle.pn_join.specs.declared.table.counts.Sizes.{Sizes}
use Rattle.pn_join.proofs.CountsFacts.{all_counted, one_counted, sums_fit}
use Rattle.pn_join.proofs.ListFacts.{each_at}
use Rattle.pn_join.proofs.Lasts.{get-mapped, length-mapped}
use Rattle.pn_join.proofs.table.row.growth.ends_of.Goals as goal

pub sizes-more-requires : goal.sizes-more-requires
sizes-more-requires g c =
    let leaves = g.T.Node.leaves in
    let nodes = each_child leaves c.args.children.now in
    let now = c.loop-child in
    let k = now.child-index in
    let node = leaves (node_of c.child-item.result) in
    let own : leaves c.node.result.now ≡ node = ap leaves c.node.ensures in
    let lt : k < length nodes = omega (arith, c.loop-child-test.true, length-mapped (λ child. leaves (node_of child)) c.args.children.now) in
    let here : node ≡ get_or nodes k node = ap (λ child. leaves (node_of child)) c.child-item.is ∙ get-mapped (λ child. leaves (node_of child)) c.args.children.now k c.child-item.result node c.loop-child-test.true in
    subst (λ n. IsLeafList g.K.Ord.cmp g.C.Join.valid n) (sym (own ∙ here)) (each_at (λ n. IsLeafList g.K.Ord.cmp g.C.Join.valid n) nodes k node c.requires.leaf_lists lt)

pub overflow_add-entries : goal.overflow_add-entries
overflow_add-entries g c =
    let leaves = g.T.Node.leaves in
    let nodes = each_child leaves c.args.children.now in
    let now = c.loop-child in
    let k = now.child-index in
    let node = leaves (node_of c.child-item.result) in
    let own : leaves c.node.result.now ≡ node = ap leaves c.node.ensures in
    let lt : k < length nodes = omega (arith, c.loop-child-test.true, length-mapped (λ child. leaves (node_of child)) c.args.children.now) in
    let here : node ≡ get_or nodes k node = ap (λ child. leaves (node_of child)) c.child-item.is ∙ get-mapped (λ child. leaves (node_of child)) c.args.children.now k c.child-item.result node c.loop-child-test.true in
    let sums = sums_fit nodes k now.entries now.leaves now.ends.items now.invariant.counted node lt here c.requires.fits.0 c.requires.fits.1 in
    let entries : c.sizes-more.result.entries ≡ length (all_entries node) = c.sizes-more.ensures.entries ∙ ap (λ n. length (all_entries n)) own in
    let count : c.sizes-more.result.leaves ≡ length node = c.sizes-more.ensures.leaves ∙ ap length own in
    omega (arith, sums.0, entries)

pub overflow_add-leaves : goal.overflow_add-leaves
overflow_add-leaves g c =
    let leaves = g.T.Node.leaves in
    let nodes = each_child leaves c.args.children.now in
    let now = c.loop-child in
    let k = now.child-index in
    let node = leaves (node_of c.child-item.result) in
    let own : leaves c.node.result.now ≡ node = ap leaves c.node.ensures in
    let lt : k < length nodes = omega (arith, c.loop-child-test.true, length-mapped (λ child. leaves (node_of child)) c.args.children.now) in
    let here : node ≡ get_or nodes k node = ap (λ child. leaves (node_of child)) c.child-item.is ∙ get-mapped (λ child. leaves (node_of child)) c.args.children.now k c.child-item.result node c.loop-child-test.true in
    let sums = sums_fit nodes k now.entries now.leaves now.ends.items now.invariant.counted node lt here c.requires.fits.0 c.requires.fits.1 in
    let entries : c.sizes-more.result.entries ≡ length (all_entries node) = c.sizes-more.ensures.entries ∙ ap (λ n. length (all_entries n)) own in
    let count : c.sizes-more.result.leaves ≡ length node = c.sizes-more.ensures.leaves ∙ ap length own in
    omega (arith, sums.1, count)

pub loop-child-preserved : goal.loop-child-preserved
loop-child-preserved g c =
    let leaves = g.T.Node.leaves in
    let nodes = each_child leaves c.args.children.now in
    let now = c.loop-child in
    let k = now.child-index in
    let node = leaves (node_of c.child-item.result) in
    let own : leaves c.node.result.now ≡ node = ap leaves c.node.ensures in
    let lt : k < length nodes = omega (arith, c.loop-child-test.true, length-mapped (λ child. leaves (node_of child)) c.args.children.now) in
    let here : node ≡ get_or nodes k node = ap (λ child. leaves (node_of child)) c.child-item.is ∙ get-mapped (λ child. leaves (node_of child)) c.args.children.now k c.child-item.result node c.loop-child-test.true in
    let sums = sums_fit nodes k now.entries now.leaves now.ends.items now.invariant.counted node lt here c.requires.fits.0 c.requires.fits.1 in
    let entries : c.sizes-more.result.entries ≡ length (all_entries node) = c.sizes-more.ensures.entries ∙ ap (λ n. length (all_entries n)) own in
    let count : c.sizes-more.result.leaves ≡ length node = c.sizes-more.ensures.leaves ∙ ap length own in
    let end : Sizes = record { entries = now.entries + c.sizes-more.result.entries; leaves = now.leaves + c.sizes-more.result.leaves } in
    let is : end.entries ≡ now.entries + length (all_entries node) = ap (λ n. now.entries + n) entries in
    let are : end.leaves ≡ now.leaves + length node = ap (λ n. now.leaves + n) count in
    record {
      counted = rw c.push_reserved.ensures.items (one_counted nodes k now.entries now.leaves now.ends.items now.invariant.counted node lt here c.requires.fits.0 c.requires.fits.1 end is are);
      len = omega (arith, c.push_reserved.ensures.len, now.invariant.len);
      capacity = omega (arith, c.push_reserved.ensures.capacity, now.invariant.capacity);
    }

pub returns : goal.returns
returns g c =
    let now = c.loop-child in
    let leaves = g.T.Node.leaves in
    all_counted (each_child leaves c.args.children.now) now.child-index now.entries now.leaves now.ends.items now.invariant.counted (omega (arith, c.loop-child-test.false, length-mapped (λ child. leaves (node_of child)) c.args.children.now))

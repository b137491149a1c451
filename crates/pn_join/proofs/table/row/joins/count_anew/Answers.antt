-- Both parts are counted.
use Rattle.std.proofs.Common.{◌≡◌, ◌+◌, ◌<◌, [], length, get_or, insert, Some, None, option_map, ap, ◌∙◌, arith, rules}
use Rattle.pn_join.specs.Counts.{end_before, entry_count, entry_ends, leaf_count, leaf_ends}
use Rattle.pn_join.specs.Leaves.{all_entries}
use Rattle.pn_join.specs.Nodes.{each_child, node_of}
use Rattle.pn_join.specs.declared.table.counts.Sizes.{Sizes}
use Rattle.pn_join.proofs.CountsFacts.{alone_counted, both_counted, inserted_one, may_move, sum_fits}
use Rattle.pn_join.proofs.Lasts.{get-mapped, length-mapped, map-insert}
use Rattle.pn_join.proofs.table.row.joins.count_anew.Goals as goal

pub sum-front-requires : goal.sum-front-requires
sum-front-requires g c =
    let leaves = g.T.Node.leaves in
    let old = c.args.children.now.items in
    let nodes = each_child leaves old in
    let i = c.args.node in
    let ends = c.args.ends.now.items in
    let node = get_or nodes i [] in
    let own : leaves c.node.result.now ≡ node =
    ap leaves c.node.ensures ∙ ap (λ child. leaves (node_of child)) c.index.ensures ∙ get-mapped (λ child. leaves (node_of child)) old i c.index.result.now [] c.requires.within.0 in
    let has_entries : c.sizes.result.entries ≡ length (all_entries node) = c.sizes.ensures.entries ∙ ap (λ n. length (all_entries n)) own in
    let begins_entries : c.start_of-start.result.entries ≡ end_before i (entry_ends ends) = c.start_of-start.ensures.entries ∙ ap (λ es. end_before i (entry_ends es)) c.deref.ensures.value in
    let lt_entries : i < length (entry_ends ends) = omega (arith, c.requires.within.1, length-mapped (λ (e : Sizes). e.entries) ends) in
    let has_leaves : c.sizes.result.leaves ≡ length node = c.sizes.ensures.leaves ∙ ap (λ n. length n) own in
    let begins_leaves : c.start_of-start.result.leaves ≡ end_before i (leaf_ends ends) = c.start_of-start.ensures.leaves ∙ ap (λ es. end_before i (leaf_ends es)) c.deref.ensures.value in
    let lt_leaves : i < length (leaf_ends ends) = omega (arith, c.requires.within.1, length-mapped (λ (e : Sizes). e.leaves) ends) in
    let fits_entries = sum_fits i (length (all_entries node)) (entry_count (option_map leaves c.args.back)) (entry_ends ends) lt_entries c.requires.counts.entries in
    let fits_leaves = sum_fits i (length node) (leaf_count (option_map leaves c.args.back)) (leaf_ends ends) lt_leaves c.requires.counts.leaves in
    (omega (arith, fits_entries, begins_entries, has_entries), omega (arith, fits_leaves, begins_leaves, has_leaves))

pub move_ends-requires-clause-entries : goal.move_ends-requires-clause-entries
move_ends-requires-clause-entries g c =
    let leaves = g.T.Node.leaves in
    let old = c.args.children.now.items in
    let nodes = each_child leaves old in
    let i = c.args.node in
    let ends = c.args.ends.now.items in
    let node = get_or nodes i [] in
    let own : leaves c.node.result.now ≡ node =
    ap leaves c.node.ensures ∙ ap (λ child. leaves (node_of child)) c.index.ensures ∙ get-mapped (λ child. leaves (node_of child)) old i c.index.result.now [] c.requires.within.0 in
    let has_entries : c.sizes.result.entries ≡ length (all_entries node) = c.sizes.ensures.entries ∙ ap (λ n. length (all_entries n)) own in
    let begins_entries : c.start_of-start.result.entries ≡ end_before i (entry_ends ends) = c.start_of-start.ensures.entries ∙ ap (λ es. end_before i (entry_ends es)) c.deref.ensures.value in
    let lt_entries : i < length (entry_ends ends) = omega (arith, c.requires.within.1, length-mapped (λ (e : Sizes). e.entries) ends) in
    let front_entries : c.sum-front.result.entries ≡ end_before i (entry_ends ends) + length (all_entries node) = omega (arith, c.sum-front.ensures.0, begins_entries, has_entries) in
    let was_entries : c.index-was.result.now.entries ≡ get_or (entry_ends ends) i 0 = ap (λ (e : Sizes). e.entries) c.index-was.ensures ∙ get-mapped (λ (e : Sizes). e.entries) ends i c.index-was.result.now 0 c.requires.within.1 in
    let may = rw c.in_default.is at c.requires.counts.entries in
    let to : c.sum-front.result.entries ≡ (end_before i (entry_ends ends) + length (all_entries node)) + 0 = omega (arith, front_entries) in
    may_move i c.index-was.result.now.entries c.sum-front.result.entries (length (all_entries node)) None (entry_ends ends) may was_entries to

pub move_ends-requires-clause-leaves : goal.move_ends-requires-clause-leaves
move_ends-requires-clause-leaves g c =
    let leaves = g.T.Node.leaves in
    let old = c.args.children.now.items in
    let nodes = each_child leaves old in
    let i = c.args.node in
    let ends = c.args.ends.now.items in
    let node = get_or nodes i [] in
    let own : leaves c.node.result.now ≡ node =
    ap leaves c.node.ensures ∙ ap (λ child. leaves (node_of child)) c.index.ensures ∙ get-mapped (λ child. leaves (node_of child)) old i c.index.result.now [] c.requires.within.0 in
    let has_leaves : c.sizes.result.leaves ≡ length node = c.sizes.ensures.leaves ∙ ap (λ n. length n) own in
    let begins_leaves : c.start_of-start.result.leaves ≡ end_before i (leaf_ends ends) = c.start_of-start.ensures.leaves ∙ ap (λ es. end_before i (leaf_ends es)) c.deref.ensures.value in
    let lt_leaves : i < length (leaf_ends ends) = omega (arith, c.requires.within.1, length-mapped (λ (e : Sizes). e.leaves) ends) in
    let front_leaves : c.sum-front.result.leaves ≡ end_before i (leaf_ends ends) + length node = omega (arith, c.sum-front.ensures.1, begins_leaves, has_leaves) in
    let was_leaves : c.index-was.result.now.leaves ≡ get_or (leaf_ends ends) i 0 = ap (λ (e : Sizes). e.leaves) c.index-was.ensures ∙ get-mapped (λ (e : Sizes). e.leaves) ends i c.index-was.result.now 0 c.requires.within.1 in
    let may = rw c.in_default.is at c.requires.counts.leaves in
    let to : c.sum-front.result.leaves ≡ (end_before i (leaf_ends ends) + length node) + 0 = omega (arith, front_leaves) in
    may_move i c.index-was.result.now.leaves c.sum-front.result.leaves (length node) None (leaf_ends ends) may was_leaves to

pub returns-in_default-clause-counts : goal.returns-in_default-clause-counts
returns-in_default-clause-counts g c =
    let leaves = g.T.Node.leaves in
    let old = c.args.children.now.items in
    let nodes = each_child leaves old in
    let i = c.args.node in
    let ends = c.args.ends.now.items in
    let node = get_or nodes i [] in
    let own : leaves c.node.result.now ≡ node =
    ap leaves c.node.ensures ∙ ap (λ child. leaves (node_of child)) c.index.ensures ∙ get-mapped (λ child. leaves (node_of child)) old i c.index.result.now [] c.requires.within.0 in
    let has_entries : c.sizes.result.entries ≡ length (all_entries node) = c.sizes.ensures.entries ∙ ap (λ n. length (all_entries n)) own in
    let begins_entries : c.start_of-start.result.entries ≡ end_before i (entry_ends ends) = c.start_of-start.ensures.entries ∙ ap (λ es. end_before i (entry_ends es)) c.deref.ensures.value in
    let lt_entries : i < length (entry_ends ends) = omega (arith, c.requires.within.1, length-mapped (λ (e : Sizes). e.entries) ends) in
    let has_leaves : c.sizes.result.leaves ≡ length node = c.sizes.ensures.leaves ∙ ap (λ n. length n) own in
    let begins_leaves : c.start_of-start.result.leaves ≡ end_before i (leaf_ends ends) = c.start_of-start.ensures.leaves ∙ ap (λ es. end_before i (leaf_ends es)) c.deref.ensures.value in
    let lt_leaves : i < length (leaf_ends ends) = omega (arith, c.requires.within.1, length-mapped (λ (e : Sizes). e.leaves) ends) in
    let front_entries : c.sum-front.result.entries ≡ end_before i (entry_ends ends) + length (all_entries node) = omega (arith, c.sum-front.ensures.0, begins_entries, has_entries) in
    let was_entries : c.index-was.result.now.entries ≡ get_or (entry_ends ends) i 0 = ap (λ (e : Sizes). e.entries) c.index-was.ensures ∙ get-mapped (λ (e : Sizes). e.entries) ends i c.index-was.result.now 0 c.requires.within.1 in
    let front_leaves : c.sum-front.result.leaves ≡ end_before i (leaf_ends ends) + length node = omega (arith, c.sum-front.ensures.1, begins_leaves, has_leaves) in
    let was_leaves : c.index-was.result.now.leaves ≡ get_or (leaf_ends ends) i 0 = ap (λ (e : Sizes). e.leaves) c.index-was.ensures ∙ get-mapped (λ (e : Sizes). e.leaves) ends i c.index-was.result.now 0 c.requires.within.1 in
    rw c.in_default.is (record {
      entries = alone_counted i c.index-was.result.now.entries c.sum-front.result.entries (length (all_entries node)) (entry_ends ends) (entry_ends c.move_ends.new.ends.items) c.move_ends.ensures.entries was_entries front_entries;
      leaves = alone_counted i c.index-was.result.now.leaves c.sum-front.result.leaves (length node) (leaf_ends ends) (leaf_ends c.move_ends.new.ends.items) c.move_ends.ensures.leaves was_leaves front_leaves;
    })

pub sum-requires : goal.sum-requires
sum-requires g c =
    let leaves = g.T.Node.leaves in
    let old = c.args.children.now.items in
    let nodes = each_child leaves old in
    let i = c.args.node in
    let ends = c.args.ends.now.items in
    let node = get_or nodes i [] in
    let own : leaves c.node.result.now ≡ node =
    ap leaves c.node.ensures ∙ ap (λ child. leaves (node_of child)) c.index.ensures ∙ get-mapped (λ child. leaves (node_of child)) old i c.index.result.now [] c.requires.within.0 in
    let has_entries : c.sizes.result.entries ≡ length (all_entries node) = c.sizes.ensures.entries ∙ ap (λ n. length (all_entries n)) own in
    let begins_entries : c.start_of-start.result.entries ≡ end_before i (entry_ends ends) = c.start_of-start.ensures.entries ∙ ap (λ es. end_before i (entry_ends es)) c.deref.ensures.value in
    let lt_entries : i < length (entry_ends ends) = omega (arith, c.requires.within.1, length-mapped (λ (e : Sizes). e.entries) ends) in
    let has_leaves : c.sizes.result.leaves ≡ length node = c.sizes.ensures.leaves ∙ ap (λ n. length n) own in
    let begins_leaves : c.start_of-start.result.leaves ≡ end_before i (leaf_ends ends) = c.start_of-start.ensures.leaves ∙ ap (λ es. end_before i (leaf_ends es)) c.deref.ensures.value in
    let lt_leaves : i < length (leaf_ends ends) = omega (arith, c.requires.within.1, length-mapped (λ (e : Sizes). e.leaves) ends) in
    let front_entries : c.sum-front.result.entries ≡ end_before i (entry_ends ends) + length (all_entries node) = omega (arith, c.sum-front.ensures.0, begins_entries, has_entries) in
    let was_entries : c.index-was.result.now.entries ≡ get_or (entry_ends ends) i 0 = ap (λ (e : Sizes). e.entries) c.index-was.ensures ∙ get-mapped (λ (e : Sizes). e.entries) ends i c.index-was.result.now 0 c.requires.within.1 in
    let front_leaves : c.sum-front.result.leaves ≡ end_before i (leaf_ends ends) + length node = omega (arith, c.sum-front.ensures.1, begins_leaves, has_leaves) in
    let was_leaves : c.index-was.result.now.leaves ≡ get_or (leaf_ends ends) i 0 = ap (λ (e : Sizes). e.leaves) c.index-was.ensures ∙ get-mapped (λ (e : Sizes). e.leaves) ends i c.index-was.result.now 0 c.requires.within.1 in
    let may_entries = rw c.in-Some.is at c.requires.counts.entries in
    let fits_entries = sum_fits i (length (all_entries node)) (Some (length (all_entries (leaves c.in-Some.back)))) (entry_ends ends) lt_entries may_entries in
    let may_leaves = rw c.in-Some.is at c.requires.counts.leaves in
    let fits_leaves = sum_fits i (length node) (Some (length (leaves c.in-Some.back))) (leaf_ends ends) lt_leaves may_leaves in
    (omega (arith, fits_entries, front_entries, c.sizes-2.ensures.entries), omega (arith, fits_leaves, front_leaves, c.sizes-2.ensures.leaves))

pub move_ends-requires-2-clause-entries : goal.move_ends-requires-2-clause-entries
move_ends-requires-2-clause-entries g c =
    let leaves = g.T.Node.leaves in
    let old = c.args.children.now.items in
    let nodes = each_child leaves old in
    let i = c.args.node in
    let ends = c.args.ends.now.items in
    let node = get_or nodes i [] in
    let own : leaves c.node.result.now ≡ node =
    ap leaves c.node.ensures ∙ ap (λ child. leaves (node_of child)) c.index.ensures ∙ get-mapped (λ child. leaves (node_of child)) old i c.index.result.now [] c.requires.within.0 in
    let has_entries : c.sizes.result.entries ≡ length (all_entries node) = c.sizes.ensures.entries ∙ ap (λ n. length (all_entries n)) own in
    let begins_entries : c.start_of-start.result.entries ≡ end_before i (entry_ends ends) = c.start_of-start.ensures.entries ∙ ap (λ es. end_before i (entry_ends es)) c.deref.ensures.value in
    let lt_entries : i < length (entry_ends ends) = omega (arith, c.requires.within.1, length-mapped (λ (e : Sizes). e.entries) ends) in
    let front_entries : c.sum-front.result.entries ≡ end_before i (entry_ends ends) + length (all_entries node) = omega (arith, c.sum-front.ensures.0, begins_entries, has_entries) in
    let was_entries : c.index-was.result.now.entries ≡ get_or (entry_ends ends) i 0 = ap (λ (e : Sizes). e.entries) c.index-was.ensures ∙ get-mapped (λ (e : Sizes). e.entries) ends i c.index-was.result.now 0 c.requires.within.1 in
    let sum_entries : c.sum.result.entries ≡ c.sum-front.result.entries + length (all_entries (leaves c.in-Some.back)) = omega (arith, c.sum.ensures.0, c.sizes-2.ensures.entries) in
    let may = rw c.in-Some.is at c.requires.counts.entries in
    let to : c.sum.result.entries ≡ (end_before i (entry_ends ends) + length (all_entries node)) + length (all_entries (leaves c.in-Some.back)) = omega (arith, front_entries, sum_entries) in
    may_move i c.index-was.result.now.entries c.sum.result.entries (length (all_entries node)) (Some (length (all_entries (leaves c.in-Some.back)))) (entry_ends ends) may was_entries to

pub move_ends-requires-2-clause-leaves : goal.move_ends-requires-2-clause-leaves
move_ends-requires-2-clause-leaves g c =
    let leaves = g.T.Node.leaves in
    let old = c.args.children.now.items in
    let nodes = each_child leaves old in
    let i = c.args.node in
    let ends = c.args.ends.now.items in
    let node = get_or nodes i [] in
    let own : leaves c.node.result.now ≡ node =
    ap leaves c.node.ensures ∙ ap (λ child. leaves (node_of child)) c.index.ensures ∙ get-mapped (λ child. leaves (node_of child)) old i c.index.result.now [] c.requires.within.0 in
    let has_leaves : c.sizes.result.leaves ≡ length node = c.sizes.ensures.leaves ∙ ap (λ n. length n) own in
    let begins_leaves : c.start_of-start.result.leaves ≡ end_before i (leaf_ends ends) = c.start_of-start.ensures.leaves ∙ ap (λ es. end_before i (leaf_ends es)) c.deref.ensures.value in
    let lt_leaves : i < length (leaf_ends ends) = omega (arith, c.requires.within.1, length-mapped (λ (e : Sizes). e.leaves) ends) in
    let front_leaves : c.sum-front.result.leaves ≡ end_before i (leaf_ends ends) + length node = omega (arith, c.sum-front.ensures.1, begins_leaves, has_leaves) in
    let was_leaves : c.index-was.result.now.leaves ≡ get_or (leaf_ends ends) i 0 = ap (λ (e : Sizes). e.leaves) c.index-was.ensures ∙ get-mapped (λ (e : Sizes). e.leaves) ends i c.index-was.result.now 0 c.requires.within.1 in
    let sum_leaves : c.sum.result.leaves ≡ c.sum-front.result.leaves + length (leaves c.in-Some.back) = omega (arith, c.sum.ensures.1, c.sizes-2.ensures.leaves) in
    let may = rw c.in-Some.is at c.requires.counts.leaves in
    let to : c.sum.result.leaves ≡ (end_before i (leaf_ends ends) + length node) + length (leaves c.in-Some.back) = omega (arith, front_leaves, sum_leaves) in
    may_move i c.index-was.result.now.leaves c.sum.result.leaves (length node) (Some (length (leaves c.in-Some.back))) (leaf_ends ends) may was_leaves to

pub returns-clause-nodes : goal.returns-clause-nodes
returns-clause-nodes g c =
    let leaves = g.T.Node.leaves in
    let old = c.args.children.now.items in
    let nodes = each_child leaves old in
    let next = c.args.node + 1 in
    let put : c.insert-2.new.self.items ≡ insert old next c.seal.result = search rules in
    rw c.in-Some.is (ap (each_child leaves) put ∙ map-insert (λ child. leaves (node_of child)) old next c.seal.result
    ∙ ap (λ n. insert nodes next (leaves n)) c.seal.ensures ∙ inserted_one nodes next (leaves c.in-Some.back))

pub returns-clause-counts : goal.returns-clause-counts
returns-clause-counts g c =
    let leaves = g.T.Node.leaves in
    let old = c.args.children.now.items in
    let nodes = each_child leaves old in
    let i = c.args.node in
    let ends = c.args.ends.now.items in
    let node = get_or nodes i [] in
    let own : leaves c.node.result.now ≡ node =
    ap leaves c.node.ensures ∙ ap (λ child. leaves (node_of child)) c.index.ensures ∙ get-mapped (λ child. leaves (node_of child)) old i c.index.result.now [] c.requires.within.0 in
    let has_entries : c.sizes.result.entries ≡ length (all_entries node) = c.sizes.ensures.entries ∙ ap (λ n. length (all_entries n)) own in
    let begins_entries : c.start_of-start.result.entries ≡ end_before i (entry_ends ends) = c.start_of-start.ensures.entries ∙ ap (λ es. end_before i (entry_ends es)) c.deref.ensures.value in
    let lt_entries : i < length (entry_ends ends) = omega (arith, c.requires.within.1, length-mapped (λ (e : Sizes). e.entries) ends) in
    let has_leaves : c.sizes.result.leaves ≡ length node = c.sizes.ensures.leaves ∙ ap (λ n. length n) own in
    let begins_leaves : c.start_of-start.result.leaves ≡ end_before i (leaf_ends ends) = c.start_of-start.ensures.leaves ∙ ap (λ es. end_before i (leaf_ends es)) c.deref.ensures.value in
    let lt_leaves : i < length (leaf_ends ends) = omega (arith, c.requires.within.1, length-mapped (λ (e : Sizes). e.leaves) ends) in
    let front_entries : c.sum-front.result.entries ≡ end_before i (entry_ends ends) + length (all_entries node) = omega (arith, c.sum-front.ensures.0, begins_entries, has_entries) in
    let was_entries : c.index-was.result.now.entries ≡ get_or (entry_ends ends) i 0 = ap (λ (e : Sizes). e.entries) c.index-was.ensures ∙ get-mapped (λ (e : Sizes). e.entries) ends i c.index-was.result.now 0 c.requires.within.1 in
    let front_leaves : c.sum-front.result.leaves ≡ end_before i (leaf_ends ends) + length node = omega (arith, c.sum-front.ensures.1, begins_leaves, has_leaves) in
    let was_leaves : c.index-was.result.now.leaves ≡ get_or (leaf_ends ends) i 0 = ap (λ (e : Sizes). e.leaves) c.index-was.ensures ∙ get-mapped (λ (e : Sizes). e.leaves) ends i c.index-was.result.now 0 c.requires.within.1 in
    let sum_entries : c.sum.result.entries ≡ c.sum-front.result.entries + length (all_entries (leaves c.in-Some.back)) = omega (arith, c.sum.ensures.0, c.sizes-2.ensures.entries) in
    let sum_leaves : c.sum.result.leaves ≡ c.sum-front.result.leaves + length (leaves c.in-Some.back) = omega (arith, c.sum.ensures.1, c.sizes-2.ensures.leaves) in
    let put : c.insert.new.self.items ≡ insert c.move_ends-2.new.ends.items i c.sum-front.result = search rules in
    rw c.in-Some.is (record {
      entries = both_counted i c.index-was.result.now.entries c.sum.result.entries (length (all_entries node)) (length (all_entries (leaves c.in-Some.back))) c.sum-front.result.entries (entry_ends ends) (entry_ends c.move_ends-2.new.ends.items) (entry_ends c.insert.new.self.items) c.move_ends-2.ensures.entries was_entries front_entries sum_entries (ap entry_ends put ∙ map-insert (λ (e : Sizes). e.entries) c.move_ends-2.new.ends.items i c.sum-front.result);
      leaves = both_counted i c.index-was.result.now.leaves c.sum.result.leaves (length node) (length (leaves c.in-Some.back)) c.sum-front.result.leaves (leaf_ends ends) (leaf_ends c.move_ends-2.new.ends.items) (leaf_ends c.insert.new.self.items) c.move_ends-2.ensures.leaves was_leaves front_leaves sum_leaves (ap leaf_ends put ∙ map-insert (λ (e : Sizes). e.leaves) c.move_ends-2.new.ends.items i c.sum-front.result);
    })

-- The node that the index comes into gets the content, and is counted anew.
use Rattle.std.proofs.Common.{◌≡◌, ◌+◌, ◌^◌, ◌<◌, ◌≤◌, [], length, get_or, take, option_map, ap, ◌∙◌, sym, arith}
use Rattle.std.specs.Option.{option_to_list}
use Rattle.pn_join.specs.NodeLeaves.{in_nodes, entries_in}
use Rattle.pn_join.specs.Leaves.{all_entries}
use Rattle.pn_join.specs.Nodes.{each_child, node_of}
use Rattle.pn_join.specs.PutAt.{from_start, place, IsAmong, MayPutAt}
use Rattle.pn_join.specs.Rows.{IsJoinedIn}
use Rattle.pn_join.proofs.CountsFacts.{there_before, length-ends}
use Rattle.pn_join.proofs.ListFacts.{each_at}
use Rattle.pn_join.proofs.Lasts.{get_set, length-mapped, length-set}
use Rattle.pn_join.proofs.PutBack.{parts_lists, joined_row, may_count, node_may, now_row, one_in_row, parts_table, row_counted}
use Rattle.pn_join.proofs.table.row.Row.join_in_row.Goals as goal

pub join_in_child-requires-clause-place : goal.join_in_child-requires-clause-place
join_in_child-requires-clause-place g c =
    let cmp = g.K.Ord.cmp in
    let valid = g.C.Join.valid in
    let leaves = g.T.Node.leaves in
    let old = c.self.inside.children.items in
    let nodes = each_child leaves old in
    let i = c.node_for-node.result in
    let given = c.args.index in
    let first = length (all_entries (take i (in_nodes nodes))) in
    let lt : i < length nodes = omega (arith, c.node_for-node.ensures.within, ap length c.self.view_is) in
    let starts : first ≤ place given = rw c.self.view_is c.node_for-node.ensures.from in
    let among : IsAmong (length (get_or (in_nodes nodes) i [])) (from_start first given) = rw c.self.view_is c.node_for-node.ensures.among in
    let may : MayPutAt cmp valid given c.args.key (entries_in nodes) = rw c.self.view_is c.requires.place in
    let items : each_child leaves c.reserve.new.self.items ≡ nodes = ap (each_child leaves) c.in_ok-reserve.ensures.items in
    let at : c.from_start-index.result ≡ from_start first given = c.from_start-index.ensures ∙ ap (λ n. from_start n given) (c.start.ensures.entries ∙ ap (λ ns. length (all_entries (take i (in_nodes ns)))) (sym c.self.view_is)) in
    rw (items, at) (node_may cmp valid nodes i given lt starts among c.args.key may)

pub count_anew-requires-clause-within : goal.count_anew-requires-clause-within
count_anew-requires-clause-within g c =
    let cmp = g.K.Ord.cmp in
    let valid = g.C.Join.valid in
    let leaves = g.T.Node.leaves in
    let old = c.self.inside.children.items in
    let nodes = each_child leaves old in
    let i = c.node_for-node.result in
    let given = c.args.index in
    let first = length (all_entries (take i (in_nodes nodes))) in
    let lt : i < length nodes = omega (arith, c.node_for-node.ensures.within, ap length c.self.view_is) in
    let starts : first ≤ place given = rw c.self.view_is c.node_for-node.ensures.from in
    let among : IsAmong (length (get_or (in_nodes nodes) i [])) (from_start first given) = rw c.self.view_is c.node_for-node.ensures.among in
    let may : MayPutAt cmp valid given c.args.key (entries_in nodes) = rw c.self.view_is c.requires.place in
    let items : each_child leaves c.reserve.new.self.items ≡ nodes = ap (each_child leaves) c.in_ok-reserve.ensures.items in
    let at : c.from_start-index.result ≡ from_start first given = c.from_start-index.ensures ∙ ap (λ n. from_start n given) (c.start.ensures.entries ∙ ap (λ ns. length (all_entries (take i (in_nodes ns)))) (sym c.self.view_is)) in
    (omega (arith, lt, length-mapped (λ child. leaves (node_of child)) old, ap length c.in_ok-reserve.ensures.items, c.join_in_child.ensures.len, c.reserve.new.self.ok.0, c.join_in_child.new.children.ok.0), omega (arith, lt, length-ends nodes c.self.inside.ends.items c.self.invariant.1, ap length c.in_ok-reserve-2.ensures.items))

pub count_anew-requires-clause-leaf_lists : goal.count_anew-requires-clause-leaf_lists
count_anew-requires-clause-leaf_lists g c =
    let cmp = g.K.Ord.cmp in
    let valid = g.C.Join.valid in
    let leaves = g.T.Node.leaves in
    let old = c.self.inside.children.items in
    let nodes = each_child leaves old in
    let i = c.node_for-node.result in
    let given = c.args.index in
    let first = length (all_entries (take i (in_nodes nodes))) in
    let lt : i < length nodes = omega (arith, c.node_for-node.ensures.within, ap length c.self.view_is) in
    let starts : first ≤ place given = rw c.self.view_is c.node_for-node.ensures.from in
    let among : IsAmong (length (get_or (in_nodes nodes) i [])) (from_start first given) = rw c.self.view_is c.node_for-node.ensures.among in
    let may : MayPutAt cmp valid given c.args.key (entries_in nodes) = rw c.self.view_is c.requires.place in
    let items : each_child leaves c.reserve.new.self.items ≡ nodes = ap (each_child leaves) c.in_ok-reserve.ensures.items in
    let at : c.from_start-index.result ≡ from_start first given = c.from_start-index.ensures ∙ ap (λ n. from_start n given) (c.start.ensures.entries ∙ ap (λ ns. length (all_entries (take i (in_nodes ns)))) (sym c.self.view_is)) in
    let some : 0 < length (get_or nodes i []) = each_at (λ node. 0 < length node) nodes i [] c.self.invariant.0.some lt in
    let back = option_map leaves c.in_ok-back.back in
    let mid = each_child leaves c.join_in_child.new.children.items in
    let is : IsJoinedIn g.C.Join.meaning g.C.Join.joined valid i (from_start first given) c.args.key c.args.content back nodes mid = rw (← at, ← items) c.in_ok-back.ensures.ok in
    let front : get_or mid i [] ≡ is.front = ap (λ ns. get_or ns i []) is.replaced ∙ get_set nodes i is.front [] lt in
    rw front (parts_lists cmp valid is.front back is.parts (parts_table cmp valid nodes i given lt starts among g.C.Join.meaning g.C.Join.joined c.args.key c.args.content c.self.invariant.0 may some back mid is))

pub count_anew-requires-clause-counts : goal.count_anew-requires-clause-counts
count_anew-requires-clause-counts g c =
    let cmp = g.K.Ord.cmp in
    let valid = g.C.Join.valid in
    let leaves = g.T.Node.leaves in
    let old = c.self.inside.children.items in
    let nodes = each_child leaves old in
    let i = c.node_for-node.result in
    let given = c.args.index in
    let first = length (all_entries (take i (in_nodes nodes))) in
    let lt : i < length nodes = omega (arith, c.node_for-node.ensures.within, ap length c.self.view_is) in
    let starts : first ≤ place given = rw c.self.view_is c.node_for-node.ensures.from in
    let among : IsAmong (length (get_or (in_nodes nodes) i [])) (from_start first given) = rw c.self.view_is c.node_for-node.ensures.among in
    let may : MayPutAt cmp valid given c.args.key (entries_in nodes) = rw c.self.view_is c.requires.place in
    let items : each_child leaves c.reserve.new.self.items ≡ nodes = ap (each_child leaves) c.in_ok-reserve.ensures.items in
    let at : c.from_start-index.result ≡ from_start first given = c.from_start-index.ensures ∙ ap (λ n. from_start n given) (c.start.ensures.entries ∙ ap (λ ns. length (all_entries (take i (in_nodes ns)))) (sym c.self.view_is)) in
    let some : 0 < length (get_or nodes i []) = each_at (λ node. 0 < length node) nodes i [] c.self.invariant.0.some lt in
    let back = option_map leaves c.in_ok-back.back in
    let mid = each_child leaves c.join_in_child.new.children.items in
    let is : IsJoinedIn g.C.Join.meaning g.C.Join.joined valid i (from_start first given) c.args.key c.args.content back nodes mid = rw (← at, ← items) c.in_ok-back.ensures.ok in
    let front : get_or mid i [] ≡ is.front = ap (λ ns. get_or ns i []) is.replaced ∙ get_set nodes i is.front [] lt in
    let room : length (entries_in nodes) + 1 < 2 ^ 64 = omega (arith, c.all_sizes.ensures.entries, c.start.ensures.fits.0, ap (λ ns. length (entries_in ns)) c.self.view_is) in
    rw (front, c.in_ok-reserve-2.ensures.items) (may_count cmp valid nodes i given lt starts among g.C.Join.meaning g.C.Join.joined c.args.key c.args.content c.self.invariant.0 may some back mid is room c.self.inside.ends.items c.self.invariant.1)

pub insert_hint-requires : goal.insert_hint-requires
insert_hint-requires g c =
    let cmp = g.K.Ord.cmp in
    let valid = g.C.Join.valid in
    let leaves = g.T.Node.leaves in
    let old = c.self.inside.children.items in
    let nodes = each_child leaves old in
    let i = c.node_for-node.result in
    let given = c.args.index in
    let first = length (all_entries (take i (in_nodes nodes))) in
    let lt : i < length nodes = omega (arith, c.node_for-node.ensures.within, ap length c.self.view_is) in
    let starts : first ≤ place given = rw c.self.view_is c.node_for-node.ensures.from in
    let among : IsAmong (length (get_or (in_nodes nodes) i [])) (from_start first given) = rw c.self.view_is c.node_for-node.ensures.among in
    let may : MayPutAt cmp valid given c.args.key (entries_in nodes) = rw c.self.view_is c.requires.place in
    let items : each_child leaves c.reserve.new.self.items ≡ nodes = ap (each_child leaves) c.in_ok-reserve.ensures.items in
    let at : c.from_start-index.result ≡ from_start first given = c.from_start-index.ensures ∙ ap (λ n. from_start n given) (c.start.ensures.entries ∙ ap (λ ns. length (all_entries (take i (in_nodes ns)))) (sym c.self.view_is)) in
    let some : 0 < length (get_or nodes i []) = each_at (λ node. 0 < length node) nodes i [] c.self.invariant.0.some lt in
    let back = option_map leaves c.in_ok-back.back in
    let mid = each_child leaves c.join_in_child.new.children.items in
    let is : IsJoinedIn g.C.Join.meaning g.C.Join.joined valid i (from_start first given) c.args.key c.args.content back nodes mid = rw (← at, ← items) c.in_ok-back.ensures.ok in
    let front : get_or mid i [] ≡ is.front = ap (λ ns. get_or ns i []) is.replaced ∙ get_set nodes i is.front [] lt in
    let next : i < i + 1 = omega arith in
    let within : i < length mid = omega (arith, lt, ap length is.replaced, length-set nodes i is.front) in
    rw (c.deref.ensures.value, c.count_anew.ensures.nodes, there_before mid i (i + 1) (option_to_list back) [] within next, front) (parts_lists cmp valid is.front back is.parts (parts_table cmp valid nodes i given lt starts among g.C.Join.meaning g.C.Join.joined c.args.key c.args.content c.self.invariant.0 may some back mid is)).0

pub invariant_of-self-then-is_split : goal.invariant_of-self-then-is_split
invariant_of-self-then-is_split g c =
    let cmp = g.K.Ord.cmp in
    let valid = g.C.Join.valid in
    let leaves = g.T.Node.leaves in
    let old = c.self.inside.children.items in
    let nodes = each_child leaves old in
    let i = c.node_for-node.result in
    let given = c.args.index in
    let first = length (all_entries (take i (in_nodes nodes))) in
    let lt : i < length nodes = omega (arith, c.node_for-node.ensures.within, ap length c.self.view_is) in
    let starts : first ≤ place given = rw c.self.view_is c.node_for-node.ensures.from in
    let among : IsAmong (length (get_or (in_nodes nodes) i [])) (from_start first given) = rw c.self.view_is c.node_for-node.ensures.among in
    let may : MayPutAt cmp valid given c.args.key (entries_in nodes) = rw c.self.view_is c.requires.place in
    let items : each_child leaves c.reserve.new.self.items ≡ nodes = ap (each_child leaves) c.in_ok-reserve.ensures.items in
    let at : c.from_start-index.result ≡ from_start first given = c.from_start-index.ensures ∙ ap (λ n. from_start n given) (c.start.ensures.entries ∙ ap (λ ns. length (all_entries (take i (in_nodes ns)))) (sym c.self.view_is)) in
    let some : 0 < length (get_or nodes i []) = each_at (λ node. 0 < length node) nodes i [] c.self.invariant.0.some lt in
    let back = option_map leaves c.in_ok-back.back in
    let mid = each_child leaves c.join_in_child.new.children.items in
    let is : IsJoinedIn g.C.Join.meaning g.C.Join.joined valid i (from_start first given) c.args.key c.args.content back nodes mid = rw (← at, ← items) c.in_ok-back.ensures.ok in
    let front : get_or mid i [] ≡ is.front = ap (λ ns. get_or ns i []) is.replaced ∙ get_set nodes i is.front [] lt in
    let room : length (entries_in nodes) + 1 < 2 ^ 64 = omega (arith, c.all_sizes.ensures.entries, c.start.ensures.fits.0, ap (λ ns. length (entries_in ns)) c.self.view_is) in
    rw c.count_anew.ensures.nodes (
      now_row cmp valid nodes i given lt starts among g.C.Join.meaning g.C.Join.joined c.args.key c.args.content c.self.invariant.0 may some back mid is,
      row_counted cmp valid nodes i given lt starts among g.C.Join.meaning g.C.Join.joined c.args.key c.args.content c.self.invariant.0 may some back mid is room c.self.inside.ends.items c.self.invariant.1 c.count_anew.new.ends.items (rw (← front, ← c.in_ok-reserve-2.ensures.items) c.count_anew.ensures.counts),
    )

pub returns-then-is_split-clause-ok : goal.returns-then-is_split-clause-ok
returns-then-is_split-clause-ok g c =
    let cmp = g.K.Ord.cmp in
    let valid = g.C.Join.valid in
    let leaves = g.T.Node.leaves in
    let old = c.self.inside.children.items in
    let nodes = each_child leaves old in
    let i = c.node_for-node.result in
    let given = c.args.index in
    let first = length (all_entries (take i (in_nodes nodes))) in
    let lt : i < length nodes = omega (arith, c.node_for-node.ensures.within, ap length c.self.view_is) in
    let starts : first ≤ place given = rw c.self.view_is c.node_for-node.ensures.from in
    let among : IsAmong (length (get_or (in_nodes nodes) i [])) (from_start first given) = rw c.self.view_is c.node_for-node.ensures.among in
    let may : MayPutAt cmp valid given c.args.key (entries_in nodes) = rw c.self.view_is c.requires.place in
    let items : each_child leaves c.reserve.new.self.items ≡ nodes = ap (each_child leaves) c.in_ok-reserve.ensures.items in
    let at : c.from_start-index.result ≡ from_start first given = c.from_start-index.ensures ∙ ap (λ n. from_start n given) (c.start.ensures.entries ∙ ap (λ ns. length (all_entries (take i (in_nodes ns)))) (sym c.self.view_is)) in
    let some : 0 < length (get_or nodes i []) = each_at (λ node. 0 < length node) nodes i [] c.self.invariant.0.some lt in
    let back = option_map leaves c.in_ok-back.back in
    let mid = each_child leaves c.join_in_child.new.children.items in
    let is : IsJoinedIn g.C.Join.meaning g.C.Join.joined valid i (from_start first given) c.args.key c.args.content back nodes mid = rw (← at, ← items) c.in_ok-back.ensures.ok in
    let front : get_or mid i [] ≡ is.front = ap (λ ns. get_or ns i []) is.replaced ∙ get_set nodes i is.front [] lt in
    rw (← c.self.view_is, c.count_anew.ensures.nodes) (joined_row cmp valid nodes i given lt starts among g.C.Join.meaning g.C.Join.joined c.args.key c.args.content c.self.invariant.0 may some back mid is)

pub returns-then-is_split-clause-one : goal.returns-then-is_split-clause-one
returns-then-is_split-clause-one g c =
    let cmp = g.K.Ord.cmp in
    let valid = g.C.Join.valid in
    let leaves = g.T.Node.leaves in
    let old = c.self.inside.children.items in
    let nodes = each_child leaves old in
    let i = c.node_for-node.result in
    let given = c.args.index in
    let first = length (all_entries (take i (in_nodes nodes))) in
    let lt : i < length nodes = omega (arith, c.node_for-node.ensures.within, ap length c.self.view_is) in
    let starts : first ≤ place given = rw c.self.view_is c.node_for-node.ensures.from in
    let among : IsAmong (length (get_or (in_nodes nodes) i [])) (from_start first given) = rw c.self.view_is c.node_for-node.ensures.among in
    let may : MayPutAt cmp valid given c.args.key (entries_in nodes) = rw c.self.view_is c.requires.place in
    let items : each_child leaves c.reserve.new.self.items ≡ nodes = ap (each_child leaves) c.in_ok-reserve.ensures.items in
    let at : c.from_start-index.result ≡ from_start first given = c.from_start-index.ensures ∙ ap (λ n. from_start n given) (c.start.ensures.entries ∙ ap (λ ns. length (all_entries (take i (in_nodes ns)))) (sym c.self.view_is)) in
    let some : 0 < length (get_or nodes i []) = each_at (λ node. 0 < length node) nodes i [] c.self.invariant.0.some lt in
    let back = option_map leaves c.in_ok-back.back in
    let mid = each_child leaves c.join_in_child.new.children.items in
    let is : IsJoinedIn g.C.Join.meaning g.C.Join.joined valid i (from_start first given) c.args.key c.args.content back nodes mid = rw (← at, ← items) c.in_ok-back.ensures.ok in
    let front : get_or mid i [] ≡ is.front = ap (λ ns. get_or ns i []) is.replaced ∙ get_set nodes i is.front [] lt in
    rw (← c.self.view_is, c.count_anew.ensures.nodes) (one_in_row cmp valid nodes i given lt starts among g.C.Join.meaning g.C.Join.joined c.args.key c.args.content c.self.invariant.0 may some back mid is)

pub invariant_of-self-else-is_split : goal.invariant_of-self-else-is_split
invariant_of-self-else-is_split g c =
    let cmp = g.K.Ord.cmp in
    let valid = g.C.Join.valid in
    let leaves = g.T.Node.leaves in
    let old = c.self.inside.children.items in
    let nodes = each_child leaves old in
    let i = c.node_for-node.result in
    let given = c.args.index in
    let first = length (all_entries (take i (in_nodes nodes))) in
    let lt : i < length nodes = omega (arith, c.node_for-node.ensures.within, ap length c.self.view_is) in
    let starts : first ≤ place given = rw c.self.view_is c.node_for-node.ensures.from in
    let among : IsAmong (length (get_or (in_nodes nodes) i [])) (from_start first given) = rw c.self.view_is c.node_for-node.ensures.among in
    let may : MayPutAt cmp valid given c.args.key (entries_in nodes) = rw c.self.view_is c.requires.place in
    let items : each_child leaves c.reserve.new.self.items ≡ nodes = ap (each_child leaves) c.in_ok-reserve.ensures.items in
    let at : c.from_start-index.result ≡ from_start first given = c.from_start-index.ensures ∙ ap (λ n. from_start n given) (c.start.ensures.entries ∙ ap (λ ns. length (all_entries (take i (in_nodes ns)))) (sym c.self.view_is)) in
    let some : 0 < length (get_or nodes i []) = each_at (λ node. 0 < length node) nodes i [] c.self.invariant.0.some lt in
    let back = option_map leaves c.in_ok-back.back in
    let mid = each_child leaves c.join_in_child.new.children.items in
    let is : IsJoinedIn g.C.Join.meaning g.C.Join.joined valid i (from_start first given) c.args.key c.args.content back nodes mid = rw (← at, ← items) c.in_ok-back.ensures.ok in
    let front : get_or mid i [] ≡ is.front = ap (λ ns. get_or ns i []) is.replaced ∙ get_set nodes i is.front [] lt in
    let room : length (entries_in nodes) + 1 < 2 ^ 64 = omega (arith, c.all_sizes.ensures.entries, c.start.ensures.fits.0, ap (λ ns. length (entries_in ns)) c.self.view_is) in
    rw c.count_anew.ensures.nodes (
      now_row cmp valid nodes i given lt starts among g.C.Join.meaning g.C.Join.joined c.args.key c.args.content c.self.invariant.0 may some back mid is,
      row_counted cmp valid nodes i given lt starts among g.C.Join.meaning g.C.Join.joined c.args.key c.args.content c.self.invariant.0 may some back mid is room c.self.inside.ends.items c.self.invariant.1 c.count_anew.new.ends.items (rw (← front, ← c.in_ok-reserve-2.ensures.items) c.count_anew.ensures.counts),
    )

pub returns-else-is_split-clause-ok : goal.returns-else-is_split-clause-ok
returns-else-is_split-clause-ok g c =
    let cmp = g.K.Ord.cmp in
    let valid = g.C.Join.valid in
    let leaves = g.T.Node.leaves in
    let old = c.self.inside.children.items in
    let nodes = each_child leaves old in
    let i = c.node_for-node.result in
    let given = c.args.index in
    let first = length (all_entries (take i (in_nodes nodes))) in
    let lt : i < length nodes = omega (arith, c.node_for-node.ensures.within, ap length c.self.view_is) in
    let starts : first ≤ place given = rw c.self.view_is c.node_for-node.ensures.from in
    let among : IsAmong (length (get_or (in_nodes nodes) i [])) (from_start first given) = rw c.self.view_is c.node_for-node.ensures.among in
    let may : MayPutAt cmp valid given c.args.key (entries_in nodes) = rw c.self.view_is c.requires.place in
    let items : each_child leaves c.reserve.new.self.items ≡ nodes = ap (each_child leaves) c.in_ok-reserve.ensures.items in
    let at : c.from_start-index.result ≡ from_start first given = c.from_start-index.ensures ∙ ap (λ n. from_start n given) (c.start.ensures.entries ∙ ap (λ ns. length (all_entries (take i (in_nodes ns)))) (sym c.self.view_is)) in
    let some : 0 < length (get_or nodes i []) = each_at (λ node. 0 < length node) nodes i [] c.self.invariant.0.some lt in
    let back = option_map leaves c.in_ok-back.back in
    let mid = each_child leaves c.join_in_child.new.children.items in
    let is : IsJoinedIn g.C.Join.meaning g.C.Join.joined valid i (from_start first given) c.args.key c.args.content back nodes mid = rw (← at, ← items) c.in_ok-back.ensures.ok in
    let front : get_or mid i [] ≡ is.front = ap (λ ns. get_or ns i []) is.replaced ∙ get_set nodes i is.front [] lt in
    rw (← c.self.view_is, c.count_anew.ensures.nodes) (joined_row cmp valid nodes i given lt starts among g.C.Join.meaning g.C.Join.joined c.args.key c.args.content c.self.invariant.0 may some back mid is)

pub returns-else-is_split-clause-one : goal.returns-else-is_split-clause-one
returns-else-is_split-clause-one g c =
    let cmp = g.K.Ord.cmp in
    let valid = g.C.Join.valid in
    let leaves = g.T.Node.leaves in
    let old = c.self.inside.children.items in
    let nodes = each_child leaves old in
    let i = c.node_for-node.result in
    let given = c.args.index in
    let first = length (all_entries (take i (in_nodes nodes))) in
    let lt : i < length nodes = omega (arith, c.node_for-node.ensures.within, ap length c.self.view_is) in
    let starts : first ≤ place given = rw c.self.view_is c.node_for-node.ensures.from in
    let among : IsAmong (length (get_or (in_nodes nodes) i [])) (from_start first given) = rw c.self.view_is c.node_for-node.ensures.among in
    let may : MayPutAt cmp valid given c.args.key (entries_in nodes) = rw c.self.view_is c.requires.place in
    let items : each_child leaves c.reserve.new.self.items ≡ nodes = ap (each_child leaves) c.in_ok-reserve.ensures.items in
    let at : c.from_start-index.result ≡ from_start first given = c.from_start-index.ensures ∙ ap (λ n. from_start n given) (c.start.ensures.entries ∙ ap (λ ns. length (all_entries (take i (in_nodes ns)))) (sym c.self.view_is)) in
    let some : 0 < length (get_or nodes i []) = each_at (λ node. 0 < length node) nodes i [] c.self.invariant.0.some lt in
    let back = option_map leaves c.in_ok-back.back in
    let mid = each_child leaves c.join_in_child.new.children.items in
    let is : IsJoinedIn g.C.Join.meaning g.C.Join.joined valid i (from_start first given) c.args.key c.args.content back nodes mid = rw (← at, ← items) c.in_ok-back.ensures.ok in
    let front : get_or mid i [] ≡ is.front = ap (λ ns. get_or ns i []) is.replaced ∙ get_set nodes i is.front [] lt in
    rw (← c.self.view_is, c.count_anew.ensures.nodes) (one_in_row cmp valid nodes i given lt starts among g.C.Join.meaning g.C.Join.joined c.args.key c.args.content c.self.invariant.0 may some back mid is)

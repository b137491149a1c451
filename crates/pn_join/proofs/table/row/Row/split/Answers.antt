-- The first nodes stay, and the others are counted anew.
use Rattle.std.proofs.Common.{◌≡◌, ◌-◌, length, take, drop, ap, ◌∙◌}
use Rattle.pn_join.specs.Nodes.{each_child, node_of}
use Rattle.pn_join.proofs.NodeGrowth.{first_nodes}
use Rattle.pn_join.proofs.RowEnds.{first_ends, each_list, last_nodes, last_fit, rest_range}
use Rattle.pn_join.proofs.Lasts.{map-drop, map-take}
use Rattle.pn_join.proofs.table.row.Row.split.Goals as goal

pub ends_of-requires-clause-leaf_lists : goal.ends_of-requires-clause-leaf_lists
ends_of-requires-clause-leaf_lists g c =
    let cmp = g.K.Ord.cmp in
    let valid = g.C.Join.valid in
    let leaves = g.T.Node.leaves in
    let own = c.self.inside.children.items in
    let nodes = each_child leaves own in
    let ends = c.self.inside.ends.items in
    let k = c.args.index in
    let all = c.deref.result.now in
    let rest : each_child leaves (take (length all - k) (drop k all)) ≡ drop k nodes =
    ap (each_child leaves) (rest_range all k) ∙ map-drop (λ child. leaves (node_of child)) k all ∙ ap (λ xs. drop k (each_child leaves xs)) c.deref.ensures.value in
    rw rest (each_list cmp valid (drop k nodes) (last_nodes cmp valid nodes k c.self.invariant.0).leaf_list)

pub ends_of-requires-clause-fits : goal.ends_of-requires-clause-fits
ends_of-requires-clause-fits g c =
    let cmp = g.K.Ord.cmp in
    let valid = g.C.Join.valid in
    let leaves = g.T.Node.leaves in
    let own = c.self.inside.children.items in
    let nodes = each_child leaves own in
    let ends = c.self.inside.ends.items in
    let k = c.args.index in
    let all = c.deref.result.now in
    let rest : each_child leaves (take (length all - k) (drop k all)) ≡ drop k nodes =
    ap (each_child leaves) (rest_range all k) ∙ map-drop (λ child. leaves (node_of child)) k all ∙ ap (λ xs. drop k (each_child leaves xs)) c.deref.ensures.value in
    rw rest (last_fit nodes ends k c.self.invariant.1)

pub invariant_of-result : goal.invariant_of-result
invariant_of-result g c =
    let cmp = g.K.Ord.cmp in
    let valid = g.C.Join.valid in
    let leaves = g.T.Node.leaves in
    let own = c.self.inside.children.items in
    let nodes = each_child leaves own in
    let ends = c.self.inside.ends.items in
    let k = c.args.index in
    let all = c.deref.result.now in
    let rest : each_child leaves (take (length all - k) (drop k all)) ≡ drop k nodes =
    ap (each_child leaves) (rest_range all k) ∙ map-drop (λ child. leaves (node_of child)) k all ∙ ap (λ xs. drop k (each_child leaves xs)) c.deref.ensures.value in
    let back : each_child leaves c.in_ok-children.children.items ≡ drop k nodes = ap (each_child leaves) c.in_ok-children.ensures.tail ∙ map-drop (λ child. leaves (node_of child)) k own in
    let counts = rw rest at c.in_ok-ends.ensures in
    rw back (last_nodes cmp valid nodes k c.self.invariant.0, counts)

pub invariant_of-self-2 : goal.invariant_of-self-2
invariant_of-self-2 g c =
    let cmp = g.K.Ord.cmp in
    let valid = g.C.Join.valid in
    let leaves = g.T.Node.leaves in
    let own = c.self.inside.children.items in
    let nodes = each_child leaves own in
    let ends = c.self.inside.ends.items in
    let k = c.args.index in
    let front : each_child leaves c.split_off-2.new.self.items ≡ take k nodes = ap (each_child leaves) c.in_ok-children.ensures.items ∙ map-take (λ child. leaves (node_of child)) k own in
    rw (front, c.truncate-2.ensures.items) (first_nodes cmp valid nodes k c.self.invariant.0, first_ends nodes ends k c.self.invariant.1)

pub returns-clause-ok : goal.returns-clause-ok
returns-clause-ok g c =
    let cmp = g.K.Ord.cmp in
    let valid = g.C.Join.valid in
    let leaves = g.T.Node.leaves in
    let own = c.self.inside.children.items in
    let nodes = each_child leaves own in
    let ends = c.self.inside.ends.items in
    let k = c.args.index in
    let back : each_child leaves c.in_ok-children.children.items ≡ drop k nodes = ap (each_child leaves) c.in_ok-children.ensures.tail ∙ map-drop (λ child. leaves (node_of child)) k own in
    let front : each_child leaves c.split_off-2.new.self.items ≡ take k nodes = ap (each_child leaves) c.in_ok-children.ensures.items ∙ map-take (λ child. leaves (node_of child)) k own in
    (front ∙ ap (take k) c.self.view_is, back ∙ ap (drop k) c.self.view_is)

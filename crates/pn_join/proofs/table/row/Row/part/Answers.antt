-- The part is cut from the node in which the first entry stands.
use Rattle.std.proofs.Common.{◌≡◌, ◌-◌, ◌<◌, ◌≤◌, [], length, get_or, slice_range, ap, ◌∙◌, arith}
use Rattle.pn_join.specs.Leaves.{all_entries}
use Rattle.pn_join.specs.Nodes.{each_child, node_of}
use Rattle.pn_join.proofs.Lasts.{get-mapped, length-mapped, if_ok_two}
use Rattle.pn_join.proofs.PutBack.{node_list}
use Rattle.pn_join.proofs.NodeAt.{inside, starts, ends, part_has, part_ends, part_first, part_list}
use Rattle.pn_join.proofs.table.row.Row.part.Goals as goal

pub index-node-requires : goal.index-node-requires
index-node-requires g c =
    let nodes = c.args.self.now in
    let leaves = g.T.Node.leaves in
    let i = c.node_at-index.result in
    let start = c.start-start.result.entries in
    let found = c.node_at-index.ensures.node in
    let begins = c.start-start.ensures.entries in
    let lt : i < length nodes = inside nodes c.args.from c.args.to i start found begins c.requires.some c.requires.within in
    omega (arith, lt, ap length c.self.view_is, length-mapped (λ child. leaves (node_of child)) c.self.inside.children.items, c.self.inside.children.ok.0)

pub overflow_sub-from : goal.overflow_sub-from
overflow_sub-from g c =
    let nodes = c.args.self.now in
    let leaves = g.T.Node.leaves in
    let i = c.node_at-index.result in
    let start = c.start-start.result.entries in
    let found = c.node_at-index.ensures.node in
    let begins = c.start-start.ensures.entries in
    let lt : i < length nodes = inside nodes c.args.from c.args.to i start found begins c.requires.some c.requires.within in
    omega (arith, starts nodes c.args.from c.args.to i start found begins c.requires.some c.requires.within)

pub overflow_sub-to : goal.overflow_sub-to
overflow_sub-to g c =
    let nodes = c.args.self.now in
    let leaves = g.T.Node.leaves in
    let i = c.node_at-index.result in
    let start = c.start-start.result.entries in
    let found = c.node_at-index.ensures.node in
    let begins = c.start-start.ensures.entries in
    let lt : i < length nodes = inside nodes c.args.from c.args.to i start found begins c.requires.some c.requires.within in
    omega (arith, starts nodes c.args.from c.args.to i start found begins c.requires.some c.requires.within, c.requires.some)

pub share_part-requires-clause-leaf_list : goal.share_part-requires-clause-leaf_list
share_part-requires-clause-leaf_list g c =
    let nodes = c.args.self.now in
    let leaves = g.T.Node.leaves in
    let i = c.node_at-index.result in
    let start = c.start-start.result.entries in
    let found = c.node_at-index.ensures.node in
    let begins = c.start-start.ensures.entries in
    let lt : i < length nodes = inside nodes c.args.from c.args.to i start found begins c.requires.some c.requires.within in
    let there : i < length c.self.inside.children.items = omega (arith, lt, ap length c.self.view_is, length-mapped (λ child. leaves (node_of child)) c.self.inside.children.items) in
    let node : leaves (node_of c.index-node.result.now) ≡ get_or nodes i [] =
    ap (λ child. leaves (node_of child)) c.index-node.ensures ∙ get-mapped (λ child. leaves (node_of child)) c.self.inside.children.items i c.index-node.result.now [] there ∙ ap (λ ns. get_or ns i []) c.self.view_is in
    rw node (node_list g.K.Ord.cmp g.C.Join.valid nodes c.node_at-index.ensures.row i lt)

pub share_part-requires-clause-within : goal.share_part-requires-clause-within
share_part-requires-clause-within g c =
    let nodes = c.args.self.now in
    let leaves = g.T.Node.leaves in
    let i = c.node_at-index.result in
    let start = c.start-start.result.entries in
    let found = c.node_at-index.ensures.node in
    let begins = c.start-start.ensures.entries in
    let lt : i < length nodes = inside nodes c.args.from c.args.to i start found begins c.requires.some c.requires.within in
    let there : i < length c.self.inside.children.items = omega (arith, lt, ap length c.self.view_is, length-mapped (λ child. leaves (node_of child)) c.self.inside.children.items) in
    let node : leaves (node_of c.index-node.result.now) ≡ get_or nodes i [] =
    ap (λ child. leaves (node_of child)) c.index-node.ensures ∙ get-mapped (λ child. leaves (node_of child)) c.self.inside.children.items i c.index-node.result.now [] there ∙ ap (λ ns. get_or ns i []) c.self.view_is in
    omega (arith, ends nodes c.args.from c.args.to i start found begins c.requires.some c.requires.within, ap (λ n. length (all_entries n)) node)

pub returns-clause-some : goal.returns-clause-some
returns-clause-some g c =
    let nodes = c.args.self.now in
    let leaves = g.T.Node.leaves in
    let i = c.node_at-index.result in
    let start = c.start-start.result.entries in
    let found = c.node_at-index.ensures.node in
    let begins = c.start-start.ensures.entries in
    let lt : i < length nodes = inside nodes c.args.from c.args.to i start found begins c.requires.some c.requires.within in
    let there : i < length c.self.inside.children.items = omega (arith, lt, ap length c.self.view_is, length-mapped (λ child. leaves (node_of child)) c.self.inside.children.items) in
    let node : leaves (node_of c.index-node.result.now) ≡ get_or nodes i [] =
    ap (λ child. leaves (node_of child)) c.index-node.ensures ∙ get-mapped (λ child. leaves (node_of child)) c.self.inside.children.items i c.index-node.result.now [] there ∙ ap (λ ns. get_or ns i []) c.self.view_is in
    if_ok_two c.share_part.result (λ part is sizes. part_has nodes c.args.from c.args.to i start found begins c.requires.some c.requires.within (leaves (node_of c.index-node.result.now)) (leaves (node_of part)) node is) c.share_part.ensures.part c.share_part.ensures.sizes

pub returns-clause-leaf_list : goal.returns-clause-leaf_list
returns-clause-leaf_list g c =
    let nodes = c.args.self.now in
    let leaves = g.T.Node.leaves in
    let i = c.node_at-index.result in
    let start = c.start-start.result.entries in
    let found = c.node_at-index.ensures.node in
    let begins = c.start-start.ensures.entries in
    let lt : i < length nodes = inside nodes c.args.from c.args.to i start found begins c.requires.some c.requires.within in
    let there : i < length c.self.inside.children.items = omega (arith, lt, ap length c.self.view_is, length-mapped (λ child. leaves (node_of child)) c.self.inside.children.items) in
    let node : leaves (node_of c.index-node.result.now) ≡ get_or nodes i [] =
    ap (λ child. leaves (node_of child)) c.index-node.ensures ∙ get-mapped (λ child. leaves (node_of child)) c.self.inside.children.items i c.index-node.result.now [] there ∙ ap (λ ns. get_or ns i []) c.self.view_is in
    if_ok_two c.share_part.result (λ part is sizes. part_list g.K.Ord.cmp g.C.Join.valid (leaves (node_of c.index-node.result.now)) (leaves (node_of part)) (c.args.from - start) (c.args.to - start) (rw node (node_list g.K.Ord.cmp g.C.Join.valid nodes c.node_at-index.ensures.row i lt)) sizes is) c.share_part.ensures.part c.share_part.ensures.sizes

pub returns-clause-within : goal.returns-clause-within
returns-clause-within g c =
    let nodes = c.args.self.now in
    let leaves = g.T.Node.leaves in
    let i = c.node_at-index.result in
    let start = c.start-start.result.entries in
    let found = c.node_at-index.ensures.node in
    let begins = c.start-start.ensures.entries in
    let lt : i < length nodes = inside nodes c.args.from c.args.to i start found begins c.requires.some c.requires.within in
    let there : i < length c.self.inside.children.items = omega (arith, lt, ap length c.self.view_is, length-mapped (λ child. leaves (node_of child)) c.self.inside.children.items) in
    let node : leaves (node_of c.index-node.result.now) ≡ get_or nodes i [] =
    ap (λ child. leaves (node_of child)) c.index-node.ensures ∙ get-mapped (λ child. leaves (node_of child)) c.self.inside.children.items i c.index-node.result.now [] there ∙ ap (λ ns. get_or ns i []) c.self.view_is in
    if_ok_two c.share_part.result (λ part is sizes. part_ends nodes c.args.from c.args.to i start found begins c.requires.some c.requires.within (leaves (node_of c.index-node.result.now)) (leaves (node_of part)) node is) c.share_part.ensures.part c.share_part.ensures.sizes

pub returns-clause-first : goal.returns-clause-first
returns-clause-first g c =
    let nodes = c.args.self.now in
    let leaves = g.T.Node.leaves in
    let i = c.node_at-index.result in
    let start = c.start-start.result.entries in
    let found = c.node_at-index.ensures.node in
    let begins = c.start-start.ensures.entries in
    let lt : i < length nodes = inside nodes c.args.from c.args.to i start found begins c.requires.some c.requires.within in
    let there : i < length c.self.inside.children.items = omega (arith, lt, ap length c.self.view_is, length-mapped (λ child. leaves (node_of child)) c.self.inside.children.items) in
    let node : leaves (node_of c.index-node.result.now) ≡ get_or nodes i [] =
    ap (λ child. leaves (node_of child)) c.index-node.ensures ∙ get-mapped (λ child. leaves (node_of child)) c.self.inside.children.items i c.index-node.result.now [] there ∙ ap (λ ns. get_or ns i []) c.self.view_is in
    if_ok_two c.share_part.result (λ part is sizes. part_first nodes c.args.from c.args.to i start found begins c.requires.some c.requires.within (leaves (node_of c.index-node.result.now)) (leaves (node_of part)) node is) c.share_part.ensures.part c.share_part.ensures.sizes

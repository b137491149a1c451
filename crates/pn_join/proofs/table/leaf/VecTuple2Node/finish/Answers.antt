-- The parts are leaves, if they have entries.
use Rattle.std.proofs.Common.{option_map, ◌∙◌}
use Rattle.pn_join.specs.Nodes.{leaf_of}
use Rattle.pn_join.proofs.LeafFacts.{both_leaves, leaf_parts, some_leaf}
use Rattle.pn_join.proofs.table.leaf.VecTuple2Node.finish.Goals as goal

pub returns-clause-put : goal.returns-clause-put
returns-clause-put g c =
    let parts = c.finish-front.result in
    both_leaves parts.0.items parts.1.items (option_map (λ leaf. leaf_of leaf.items) c.if_some.result) c.if_some.ensures.leaf ∙ c.finish-front.ensures.put

pub returns-clause-parts : goal.returns-clause-parts
returns-clause-parts g c =
    let parts = c.finish-front.result in
    leaf_parts parts.0.items parts.1.items (option_map (λ leaf. leaf_of leaf.items) c.if_some.result) c.if_some.ensures.leaf (some_leaf (λ leaf. leaf.items) c.if_some.result c.if_some.ensures.some) c.finish-front.ensures.some c.finish-front.ensures.sizes.0 c.finish-front.ensures.sizes.1

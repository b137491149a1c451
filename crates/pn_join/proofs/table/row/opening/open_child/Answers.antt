-- The node is taken out and open, or has the same leaves.
use Rattle.std.proofs.Common.{◌≡◌, ◌+◌, ◌<◌, [], length, get_or, refl, ap, ◌∙◌, sym, arith, rules}
use Rattle.pn_join.specs.Leaves.{all_entries}
use Rattle.pn_join.specs.Nodes.{each_child, node_of}
use Rattle.pn_join.proofs.Lasts.{get-mapped, length-mapped, map-set, on_err_of, put_as_was, still_there}
use Rattle.pn_join.proofs.table.row.opening.open_child.Goals as goal

pub open-requires-clause-node : goal.open-requires-clause-node
open-requires-clause-node g c =
    let leaves = g.T.Node.leaves in
    let old = c.args.children.now.items in
    let i = c.args.index in
    let had : leaves c.in_ok-node.node ≡ get_or (each_child leaves old) i [] = c.in_ok-node.ensures.ok ∙ ap (λ child. leaves (node_of child)) c.index_mut.ensures.value ∙ get-mapped (λ child. leaves (node_of child)) old i c.index_mut.result.now [] c.requires.within in
    rw had c.requires.node

pub open-requires-clause-edits : goal.open-requires-clause-edits
open-requires-clause-edits g c =
    let leaves = g.T.Node.leaves in
    let old = c.args.children.now.items in
    let i = c.args.index in
    let had : leaves c.in_ok-node.node ≡ get_or (each_child leaves old) i [] = c.in_ok-node.ensures.ok ∙ ap (λ child. leaves (node_of child)) c.index_mut.ensures.value ∙ get-mapped (λ child. leaves (node_of child)) old i c.index_mut.result.now [] c.requires.within in
    rw had c.requires.edits

pub returns-in-Open-clause-taken : goal.returns-in-Open-clause-taken
returns-in-Open-clause-taken g c = λ yes.
    let leaves = g.T.Node.leaves in
    let old = c.args.children.now.items in
    let i = c.args.index in
    let had : leaves c.in_ok-node.node ≡ get_or (each_child leaves old) i [] = c.in_ok-node.ensures.ok ∙ ap (λ child. leaves (node_of child)) c.index_mut.ensures.value ∙ get-mapped (λ child. leaves (node_of child)) old i c.index_mut.result.now [] c.requires.within in
    record {
      one = record { index = i; node = c.in-Open.node };
      added = search rules;
      at = refl;
      hole = leaves (node_of c.take.new.node);
      replaced = map-set (λ child. leaves (node_of child)) old i c.take.new.node;
      opened = rw (← had) c.in-Open.ensures;
    }

pub returns-in-Full-clause-full : goal.returns-in-Full-clause-full
returns-in-Full-clause-full g c = λ no.
    let leaves = g.T.Node.leaves in
    let old = c.args.children.now.items in
    let i = c.args.index in
    let inside : i < length (each_child leaves old) = omega (arith, c.requires.within, length-mapped (λ child. leaves (node_of child)) old) in
    let had : leaves c.in_ok-node.node ≡ get_or (each_child leaves old) i [] = c.in_ok-node.ensures.ok ∙ ap (λ child. leaves (node_of child)) c.index_mut.ensures.value ∙ get-mapped (λ child. leaves (node_of child)) old i c.index_mut.result.now [] c.requires.within in
    record {
      nodes_stay = put_as_was (λ child. leaves (node_of child)) old i c.take.new.node c.seal.result [] inside (ap leaves c.seal.ensures ∙ c.in-Full.ensures ∙ had);
      taken_stay = search rules;
    }

pub returns-in-NoMemory-clause-err : goal.returns-in-NoMemory-clause-err
returns-in-NoMemory-clause-err g c =
    let leaves = g.T.Node.leaves in
    let old = c.args.children.now.items in
    let i = c.args.index in
    let inside : i < length (each_child leaves old) = omega (arith, c.requires.within, length-mapped (λ child. leaves (node_of child)) old) in
    let had : leaves c.in_ok-node.node ≡ get_or (each_child leaves old) i [] = c.in_ok-node.ensures.ok ∙ ap (λ child. leaves (node_of child)) c.index_mut.ensures.value ∙ get-mapped (λ child. leaves (node_of child)) old i c.index_mut.result.now [] c.requires.within in
    record {
      nodes_stay = put_as_was (λ child. leaves (node_of child)) old i c.take.new.node c.seal-in-NoMemory.result [] inside (ap leaves c.seal-in-NoMemory.ensures ∙ c.in-NoMemory.ensures ∙ had);
      taken_stay = search rules;
    }

pub returns-in_err-node-clause-err : goal.returns-in_err-node-clause-err
returns-in_err-node-clause-err g c =
    let leaves = g.T.Node.leaves in
    let old = c.args.children.now.items in
    let i = c.args.index in
    let inside : i < length (each_child leaves old) = omega (arith, c.requires.within, length-mapped (λ child. leaves (node_of child)) old) in
    on_err_of c.from_residual-in_err-node.result (record {
      nodes_stay = still_there (λ child. leaves (node_of child)) old i c.take.new.node [] inside (ap leaves c.in_err-node.ensures.err ∙ ap (λ child. leaves (node_of child)) c.index_mut.ensures.value ∙ get-mapped (λ child. leaves (node_of child)) old i c.index_mut.result.now [] c.requires.within);
      taken_stay = search rules;
    })

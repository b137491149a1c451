-- The node is taken out, gets the entry, and is put back.
use Rattle.std.proofs.Common.{◌≡◌, ◌<◌, [], length, get_or, ap, ◌∙◌, arith}
use Rattle.pn_join.specs.Leaves.{all_entries}
use Rattle.pn_join.specs.Nodes.{each_child, node_of}
use Rattle.pn_join.specs.PutAt.{MayPutAt}
use Rattle.pn_join.proofs.ListFacts.{each_at}
use Rattle.pn_join.proofs.Lasts.{get-mapped, length-mapped, if_ok_three, on_err_by, on_err_of, put_again, put_as_was, still_there}
use Rattle.pn_join.proofs.PutBack.{node_list}
use Rattle.pn_join.proofs.table.row.joins.join_in_child.Goals as goal

pub join_at-joined-requires-clause-node : goal.join_at-joined-requires-clause-node
join_at-joined-requires-clause-node g c =
    let leaves = g.T.Node.leaves in
    let old = c.args.children.now.items in
    let nodes = each_child leaves old in
    let i = c.args.node in
    let inside : i < length nodes = omega (arith, c.requires.within, length-mapped (λ child. leaves (node_of child)) old) in
    let had : leaves c.in_ok-own.own ≡ get_or nodes i [] = c.in_ok-own.ensures.ok ∙ ap (λ child. leaves (node_of child)) c.index_mut.ensures.value ∙ get-mapped (λ child. leaves (node_of child)) old i c.index_mut.result.now [] c.requires.within in
    rw had (node_list g.K.Ord.cmp g.C.Join.valid nodes c.requires.row i inside, each_at (λ node. 0 < length node) nodes i [] c.requires.row.some inside)

pub join_at-joined-requires-clause-place : goal.join_at-joined-requires-clause-place
join_at-joined-requires-clause-place g c =
    let leaves = g.T.Node.leaves in
    let old = c.args.children.now.items in
    let nodes = each_child leaves old in
    let i = c.args.node in
    let had : leaves c.in_ok-own.own ≡ get_or nodes i [] = c.in_ok-own.ensures.ok ∙ ap (λ child. leaves (node_of child)) c.index_mut.ensures.value ∙ get-mapped (λ child. leaves (node_of child)) old i c.index_mut.result.now [] c.requires.within in
    rw had c.requires.place

pub returns-clause-ok : goal.returns-clause-ok
returns-clause-ok g c =
    let leaves = g.T.Node.leaves in
    let old = c.args.children.now.items in
    let nodes = each_child leaves old in
    let i = c.args.node in
    let had : leaves c.in_ok-own.own ≡ get_or nodes i [] = c.in_ok-own.ensures.ok ∙ ap (λ child. leaves (node_of child)) c.index_mut.ensures.value ∙ get-mapped (λ child. leaves (node_of child)) old i c.index_mut.result.now [] c.requires.within in
    let now = ap leaves c.seal.ensures in
    if_ok_three c.join_at-joined.result
    (λ back put one parts. record {
      front = leaves (node_of c.seal.result);
      replaced = put_again (λ child. leaves (node_of child)) old i c.take.new.node c.seal.result;
      put = rw (now, ← had) put;
      one = rw (now, ← had) one;
      parts = rw now parts;
    })
    c.join_at-joined.ensures.ok c.join_at-joined.ensures.one c.join_at-joined.ensures.parts

pub returns-clause-err : goal.returns-clause-err
returns-clause-err g c =
    let leaves = g.T.Node.leaves in
    let old = c.args.children.now.items in
    let nodes = each_child leaves old in
    let i = c.args.node in
    let inside : i < length nodes = omega (arith, c.requires.within, length-mapped (λ child. leaves (node_of child)) old) in
    let had : leaves c.in_ok-own.own ≡ get_or nodes i [] = c.in_ok-own.ensures.ok ∙ ap (λ child. leaves (node_of child)) c.index_mut.ensures.value ∙ get-mapped (λ child. leaves (node_of child)) old i c.index_mut.result.now [] c.requires.within in
    on_err_by c.join_at-joined.result
    (λ same. put_as_was (λ child. leaves (node_of child)) old i c.take.new.node c.seal.result [] inside (ap leaves c.seal.ensures ∙ same ∙ had))
    c.join_at-joined.ensures.err

pub returns-in_err-own-clause-err : goal.returns-in_err-own-clause-err
returns-in_err-own-clause-err g c =
    let leaves = g.T.Node.leaves in
    let old = c.args.children.now.items in
    let i = c.args.node in
    let inside : i < length (each_child leaves old) = omega (arith, c.requires.within, length-mapped (λ child. leaves (node_of child)) old) in
    on_err_of c.from_residual.result
    (still_there (λ child. leaves (node_of child)) old i c.take.new.node [] inside
    (ap leaves c.in_err-own.ensures.err ∙ ap (λ child. leaves (node_of child)) c.index_mut.ensures.value ∙ get-mapped (λ child. leaves (node_of child)) old i c.index_mut.result.now [] c.requires.within))

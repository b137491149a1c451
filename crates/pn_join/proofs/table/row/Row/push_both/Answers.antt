-- The second goes on from the first.
use Rattle.std.proofs.Common.{◌≡◌, ◌<◌, ◌++◌, length, ap, ◌∙◌, append_assoc, arith}
use Rattle.std.proofs.lemmas.List.{length-append}
use Rattle.pn_join.specs.NodeLeaves.{entries_in}
use Rattle.pn_join.specs.Leaves.{all_entries}
use Rattle.pn_join.specs.Nodes.{node_of}
use Rattle.pn_join.proofs.NodeFacts.{has_leaves}
use Rattle.pn_join.proofs.NodeGrowth.{entries_push, IsTable-back}
use Rattle.pn_join.proofs.Building.{made_has}
use Rattle.pn_join.proofs.RowEnds.{first_table}
use Rattle.pn_join.proofs.table.row.Row.push_both.Goals as goal

pub push-requires-clause-table : goal.push-requires-clause-table
push-requires-clause-table g c =
    let leaves = g.T.Node.leaves in
    first_table g.K.Ord.cmp g.C.Join.valid (entries_in c.args.self.now) (all_entries (leaves (node_of c.args.first))) (all_entries (leaves (node_of c.args.second))) c.requires.table

pub push-requires-then-not-has_room_for-clause-table : goal.push-requires-then-not-has_room_for-clause-table
push-requires-then-not-has_room_for-clause-table g c =
    let own = c.args.self.now in
    let one = g.T.Node.leaves (node_of c.args.first) in
    let two = g.T.Node.leaves (node_of c.args.second) in
    let whole : entries_in c.push.new.self ++ all_entries two ≡ entries_in own ++ (all_entries one ++ all_entries two) =
    ap (λ nodes. entries_in nodes ++ all_entries two) c.in_ok-push.ensures.ok ∙ ap (λ es. es ++ all_entries two) (entries_push own one) ∙ append_assoc (entries_in own) (all_entries one) (all_entries two) in
    rw whole c.requires.table

pub append-requires-clause-sizes : goal.append-requires-clause-sizes
append-requires-clause-sizes g c = rw (c.in_ok-both.ensures.ok, c.in_ok-take.ensures.ok) c.requires.sizes

pub append-requires-clause-table : goal.append-requires-clause-table
append-requires-clause-table g c =
    let leaves = g.T.Node.leaves in
    rw (c.in_ok-both.ensures.ok, c.in_ok-take.ensures.ok)
    (IsTable-back g.K.Ord.cmp g.C.Join.valid (entries_in c.args.self.now) (all_entries (leaves (node_of c.args.first)) ++ all_entries (leaves (node_of c.args.second))) c.requires.table)

pub push-requires-2-clause-some : goal.push-requires-2-clause-some
push-requires-2-clause-some g c =
    let leaves = g.T.Node.leaves in
    let first = leaves (node_of c.args.first) in
    let has : 0 < length (all_entries first) = made_has first c.requires.sizes.0 c.requires.some.0 in
    let some : 0 < length (all_entries (leaves c.append.new.self)) = omega (arith, has, ap length c.in_ok-append.ensures.both, length-append (all_entries (leaves c.in_ok-both.both)) (all_entries (leaves c.in_ok-take.field-0)), ap (λ n. length (all_entries n)) c.in_ok-both.ensures.ok) in
    rw c.seal.ensures (has_leaves (leaves c.append.new.self) some)

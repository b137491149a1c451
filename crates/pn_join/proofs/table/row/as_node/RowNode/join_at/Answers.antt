-- The leaves of both rows are those of the row with the content.
use Rattle.std.proofs.Common.{◌≡◌, sym, ap, ◌∙◌, subst}
use Rattle.pn_join.specs.NodeLeaves.{entries_in}
use Rattle.pn_join.specs.Leaves.{all_entries}
use Rattle.pn_join.specs.PutAt.{IsJoinedAt}
use Rattle.pn_join.specs.PutInLeaves.{ChangesOneLeaf}
use Rattle.pn_join.proofs.NodeFacts.{has_leaves}
use Rattle.pn_join.proofs.RowEnds.{split_leaves, split_parts}
use Rattle.pn_join.proofs.table.row.as_node.RowNode.join_at.Goals as goal

pub join_in_row-requires-clause-some : goal.join_in_row-requires-clause-some
join_in_row-requires-clause-some g c = has_leaves c.args.self.now c.requires.node.1

pub returns-clause-ok : goal.returns-clause-ok
returns-clause-ok g c =
    let row = c.split_if_long.new.self in
    let same = ap all_entries c.split_if_long.ensures.whole ∙ sym (split_leaves row c.split_if_long.result) in
    subst (λ leaves. IsJoinedAt g.C.Join.meaning g.C.Join.joined g.C.Join.valid c.args.index c.args.key c.args.content (entries_in c.args.self.now) (all_entries leaves)) same c.in_ok-join_in_row.ensures.ok

pub returns-clause-one : goal.returns-clause-one
returns-clause-one g c =
    let row = c.split_if_long.new.self in
    let same = ap all_entries c.split_if_long.ensures.whole ∙ sym (split_leaves row c.split_if_long.result) in
    subst (λ leaves. ChangesOneLeaf (all_entries c.args.self.now) leaves) same c.in_ok-join_in_row.ensures.one

pub returns-clause-parts : goal.returns-clause-parts
returns-clause-parts g c =
    split_parts c.join_in_row.new.self c.split_if_long.new.self c.split_if_long.result c.split_if_long.ensures.whole c.recall_row-2.ensures.some c.recall_row-2.ensures.leaf_list.sizes (c.split_if_long.ensures.some c.join_in_row.ensures.some) c.split_if_long.ensures.back

-- One more entry of the other is looked at.
use Rattle.std.proofs.Common.{[], sym, ap, ◌∙◌}
use Rattle.pn_join.specs.NodeLeaves.{entries_in}
use Rattle.pn_join.proofs.Changing.{all_edits, left_valid, no_edits, one_more}
use Rattle.pn_join.proofs.table.bulk_join.edits_from.Goals as goal

pub loop-key-init : goal.loop-key-init
loop-key-init g c =
    rw (c.new-edits.ensures.items, c.into_iter-key-iterator.ensures.into_iter_gives, c.new-key-items.ensures)
    (no_edits g.K.Ord.cmp g.C.Join.meaning g.C.Join.joined g.C.Join.valid c.args.root.now (entries_in c.args.other.now))

pub edit_for-requires : goal.edit_for-requires
edit_for-requires g c =
    let so_far = rw c.in-Some.ensures.steps at c.loop-key.invariant in
    left_valid g.K.Ord.cmp g.C.Join.meaning g.C.Join.joined g.C.Join.valid c.args.root.now (entries_in c.args.other.now) (c.in-Some.key.now, c.in-Some.content.now) c.next.new.self c.loop-key.edits.items c.recall_row.ensures.leaf_list.table so_far

pub loop-key-preserved : goal.loop-key-preserved
loop-key-preserved g c =
    let so_far = rw c.in-Some.ensures.steps at c.loop-key.invariant in
    rw c.in_ok-add_optional.ensures
    (one_more g.K.Ord.cmp g.C.Join.meaning g.C.Join.joined g.C.Join.valid c.args.root.now (entries_in c.args.other.now) (c.in-Some.key.now, c.in-Some.content.now) c.next.new.self c.loop-key.edits.items c.in_ok-edit.edit so_far c.in_ok-edit.ensures.changes c.in_ok-edit.ensures.indexed)

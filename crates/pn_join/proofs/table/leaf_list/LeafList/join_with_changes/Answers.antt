-- Putting the edits is joining with the other, and they put the same without the contents before.
use Rattle.std.proofs.Common.{ap, ◌∙◌}
use Rattle.pn_join.specs.NodeLeaves.{entries_in}
use Rattle.pn_join.specs.Edits.{changes_in}
use Rattle.pn_join.specs.Leaves.{all_entries}
use Rattle.pn_join.specs.TableChanges.{AreChanges}
use Rattle.pn_join.specs.Tables.{contents_at, key_by_key, IsTable}
use Rattle.pn_join.proofs.Changing.{puts_joined, valid_changes, edits_rise}
use Rattle.pn_join.proofs.LeafOpenings.{same_indexed, same_puts, same_rise, same_valid}
use Rattle.pn_join.proofs.table.leaf_list.LeafList.join_with_changes.Goals as goal

pub put_edits-requires-clause-indexed : goal.put_edits-requires-clause-indexed
put_edits-requires-clause-indexed g c =
    same_indexed g.K.Ord.cmp (entries_in c.self.inside.root) c.take_changes.new.edits.items c.in_ok-edits.edits.items c.in_ok-changes.ensures.same c.in_ok-edits.ensures.indexed

pub put_edits-requires-clause-rising : goal.put_edits-requires-clause-rising
put_edits-requires-clause-rising g c =
    let cmp = g.K.Ord.cmp in
    let valid = g.C.Join.valid in
    let other = entries_in c.other.inside.root in
    let table : IsTable cmp valid other = rw (← c.other.view_is) at c.recall_leaf_list-2.ensures.table in
    same_rise cmp c.take_changes.new.edits.items c.in_ok-edits.edits.items c.in_ok-changes.ensures.same
    (edits_rise cmp g.C.Join.meaning g.C.Join.joined valid (entries_in c.self.inside.root) other c.in_ok-edits.edits.items table c.in_ok-edits.ensures.changes)

pub put_edits-requires-clause-valid : goal.put_edits-requires-clause-valid
put_edits-requires-clause-valid g c =
    let cmp = g.K.Ord.cmp in
    let meaning = g.C.Join.meaning in
    let joined = g.C.Join.joined in
    let valid = g.C.Join.valid in
    let own = entries_in c.self.inside.root in
    let other = entries_in c.other.inside.root in
    let are : AreChanges cmp meaning joined valid own other (changes_in c.in_ok-edits.edits.items) = c.in_ok-edits.ensures.changes in
    same_valid valid c.take_changes.new.edits.items c.in_ok-edits.edits.items c.in_ok-changes.ensures.same (rw are.are (valid_changes cmp meaning joined valid own other are.made are.each))

pub returns-clause-changes : goal.returns-clause-changes
returns-clause-changes g c =
    let cmp = g.K.Ord.cmp in
    let meaning = g.C.Join.meaning in
    let joined = g.C.Join.joined in
    let valid = g.C.Join.valid in
    rw (← c.self.view_is, ← c.other.view_is, c.in_ok-changes.ensures.changes) c.in_ok-edits.ensures.changes

pub returns-clause-done : goal.returns-clause-done
returns-clause-done g c = λ yes.
    let cmp = g.K.Ord.cmp in
    let meaning = g.C.Join.meaning in
    let joined = g.C.Join.joined in
    let valid = g.C.Join.valid in
    let own = entries_in c.self.inside.root in
    let other = entries_in c.other.inside.root in
    let table : IsTable cmp valid other = rw (← c.other.view_is) at c.recall_leaf_list-2.ensures.table in
    ap (contents_at cmp meaning) (c.in_ok-is_done.ensures.done yes ∙ same_puts cmp own c.take_changes.new.edits.items c.in_ok-edits.edits.items c.in_ok-changes.ensures.same)
    ∙ puts_joined cmp g.met.K.Ord.total meaning joined valid own other (changes_in c.in_ok-edits.edits.items) table c.in_ok-edits.ensures.changes
    ∙ ap (λ leaves. key_by_key joined (contents_at cmp meaning (all_entries leaves)) (contents_at cmp meaning other)) c.self.view_is
    ∙ ap (λ leaves. key_by_key joined (contents_at cmp meaning (all_entries c.args.self.now)) (contents_at cmp meaning (all_entries leaves))) c.other.view_is

-- One more edit is taken off.
use Rattle.std.proofs.Common.{length, refl}
use Rattle.std.specs.Option.{option_to_list}
use Rattle.pn_join.specs.Nodes.{leaf_of}
use Rattle.pn_join.proofs.LeafOpenings.{first_off, for_leaf, from_first, from_more, next_off_more, opening_off}
use Rattle.pn_join.proofs.table.open_leaf.open_leaf.Goals as goal

pub loop-edit-init : goal.loop-edit-init
loop-edit-init g c =
    rw c.new-more.ensures.items (record {
      parted = first_off c.args.edits.now.items c.pop_from-first.new.edits.items c.pop_from-first.result c.pop_from-first.ensures.parted;
      from = from_first c.args.start c.pop_from-first.result c.pop_from-first.ensures.from;
    })

pub loop-edit-preserved : goal.loop-edit-preserved
loop-edit-preserved g c =
    let now = c.loop-edit in
    record {
      parted = next_off_more c.args.edits.now.items now.edits.items c.pop_from.new.edits.items (option_to_list now.first-1) now.more.items c.push.new.self.items c.in-Some.edit now.invariant.parted c.in-Some.ensures.parted c.in-Ok.ensures.items;
      from = from_more c.args.start (option_to_list now.first-1) now.more.items c.push.new.self.items c.in-Some.edit c.in-Ok.ensures.items now.invariant.from c.in-Some.ensures.from;
    }

pub open_with-requires-clause-edits : goal.open_with-requires-clause-edits
open_with-requires-clause-edits g c =
    for_leaf c.args.start (length c.args.entries.items) c.args.edits.now.items c.loop-edit.edits.items _ c.requires.edits c.loop-edit.invariant.parted c.loop-edit.invariant.from

pub returns : goal.returns
returns g c =
    opening_off (λ l. leaf_of l.items) (λ o. leaf_of o.0) (λ o. o.1) c.args.start (leaf_of c.args.entries.items) c.args.edits.now.items c.loop-edit.edits.items c.pop_from.new.edits.items _ c.open_with.result c.loop-edit.invariant.parted c.loop-edit.invariant.from c.in_default.ensures.parted (c.in_default.ensures.stops refl) c.open_with.ensures

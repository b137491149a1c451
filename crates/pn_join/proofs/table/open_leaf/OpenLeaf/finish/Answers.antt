-- One more content is put.
use Rattle.std.proofs.Common.{◌≡◌, ◌+◌, ◌++◌, ◌≤◌, length, ap, ◌∙◌, sym, arith}
use Rattle.std.specs.Option.{option_to_list}
use Rattle.std.specs.Vec.Iter.{into_iter_items}
use Rattle.std.proofs.lemmas.List.{length-append}
use Rattle.pn_join.specs.Edits.{put_in_turn}
use Rattle.pn_join.proofs.LeafOpenings.{for_back, for_more}
use Rattle.pn_join.proofs.PutAtFacts.{put_in_turn-append}
use Rattle.pn_join.proofs.table.open_leaf.OpenLeaf.finish.Goals as goal

pub loop-edit-init : goal.loop-edit-init
loop-edit-init g c =
    let given = c.into_iter-edit-iterator.ensures.into_iter_gives in
    let inside = c.self.inside in
    let es = inside.entries.items in
    let first = option_to_list inside.first in
    let more = inside.more.items in
    let now = c.put_if_some.new.entries in
    let holds = c.self.invariant in
    let all = length-append first more in
    let grown : length es ≤ length now.items = omega (arith, c.put_if_some.ensures.more.0, inside.entries.ok.0, now.ok.0) in
    let most : length now.items ≤ length es + length first = omega (arith, c.put_if_some.ensures.more.1, inside.entries.ok.0, now.ok.0) in
    rw given.0 (record {
      put = ap (λ xs. put_in_turn inside.start xs more) c.put_if_some.ensures.entries ∙ sym (put_in_turn-append inside.start es first more) ∙ ap (λ v. v.1) c.self.view_is;
      edits = for_more inside.start (length es) (length now.items) more grown (for_back inside.start (length es) first more holds.1);
      some = omega (arith, holds.2, grown);
      capacity = omega (arith, holds.3, all, most, c.put_if_some.ensures.capacity);
      few = omega (arith, holds.4, all, most);
      room = λ big. omega (arith, holds.5 (omega (arith, big, all, most)), all, most);
      none = holds.0;
      len = omega (arith, given.1, ap length given.0, inside.more.ok.0);
    })

pub loop-edit-preserved : goal.loop-edit-preserved
loop-edit-preserved g c =
    let now = c.loop-edit in
    let new = c.put_change.new.entries in
    let start = c.self.inside.start in
    let steps = c.in-Some.ensures.steps in
    let rest = into_iter_items c.next.new.self in
    let put = rw steps.0 at now.invariant.put in
    let edits = rw steps.0 at now.invariant.edits in
    let grown : length now.entries.items ≤ length new.items = omega (arith, c.put_change.ensures.more.0, now.entries.ok.0, new.ok.0) in
    let most : length new.items ≤ length now.entries.items + 1 = omega (arith, c.put_change.ensures.more.1, now.entries.ok.0, new.ok.0) in
    record {
      put = ap (λ xs. put_in_turn start xs rest) c.put_change.ensures.entries ∙ put;
      edits = for_more start (length now.entries.items) (length new.items) rest grown edits.1;
      some = omega (arith, now.invariant.some, grown);
      capacity = omega (arith, now.invariant.capacity, ap length steps.0, most, c.put_change.ensures.capacity);
      few = omega (arith, now.invariant.few, ap length steps.0, most);
      room = λ big. omega (arith, now.invariant.room (omega (arith, big, ap length steps.0, most)), ap length steps.0, most);
      none = now.invariant.none;
      len = omega (arith, steps.1, ap length steps.0, now.invariant.len);
    }

-- The edits are counted, and there is room for their entries.
use Rattle.std.proofs.Common.{◌≡◌, ◌+◌, ◌-◌, ◌^◌, ◌<◌, ◌++◌, length, ap, ◌∙◌, arith}
use Rattle.std.specs.Option.{option_to_list}
use Rattle.pn_join.specs.Edits.{put_in_turn}
use Rattle.pn_join.specs.Nodes.{leaf_of}
use Rattle.pn_join.proofs.LeafOpenings.{turn_of_leaf}
use Rattle.pn_join.proofs.table.open_leaf.open_with.Goals as goal

pub invariant_of-result : goal.invariant_of-result
invariant_of-result g c =
    let edits = option_to_list c.args.first ++ c.args.more.items in
    let small : c.count_edits-edits.result < 2 ^ 64 - 1 = omega (arith, c.if-most.false, c.saturating_add-most.ensures) in
    let count : c.count_edits-edits.result ≡ length edits = c.count_edits-edits.ensures small ∙ ap (λ es. length (option_to_list c.args.first ++ es)) c.deref.ensures.value in
    let same = ap length c.reserve.ensures.items in
    let most : c.saturating_add-most.result ≡ length c.args.entries.items + length edits = omega (arith, c.if-most.false, c.saturating_add-most.ensures, count, c.len.ensures, c.args.entries.ok.0) in (
      c.in-Ok.ensures.empty,
      rw c.reserve.ensures.items c.requires.edits,
      omega (arith, c.requires.some, same),
      omega (arith, c.in-Ok-reserve.ensures.ok, count, c.reserve.new.self.ok.0),
      omega (arith, c.if-most.false, most, same),
      λ big. omega (arith, c.in-Ok.ensures.capacity (omega (arith, big, most, same)), most, same),
    )

pub returns : goal.returns
returns g c =
    let edits = option_to_list c.args.first ++ c.args.more.items in
    (ap leaf_of c.reserve.ensures.items, ap (λ es. put_in_turn c.args.start es edits) c.reserve.ensures.items ∙ turn_of_leaf c.args.start c.args.entries.items edits)

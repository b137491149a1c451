-- The count of one list more is at most that of all.
use Rattle.std.proofs.Common.{◌≡◌, length, take, ap, arith}
use Rattle.std.specs.Prelude.{Vec}
use Rattle.std.specs.declared.alloc.Global.{Global}
use Rattle.std.proofs.lemmas.List.Folds.{length-flat_map-take}
use Rattle.pn_region.proofs.Common.{flat_map, Change}
use Rattle.pn_region.proofs.region.count_changes.Goals as goal

pub overflow_add-count : goal.overflow_add-count
overflow_add-count c =
    let items = λ (list : Vec Change Global). list.items in
    let lists = c.args.lists.now in
    let item = c.list-item.result in
    let so_far : c.loop-list.count ≡ length (flat_map items (take c.loop-list.list-index lists)) = c.loop-list.invariant in
    let more = length-flat_map-take items lists c.loop-list.list-index item c.loop-list-test.true in
    let own = ap (λ (list : Vec Change Global). length list.items) c.list-item.is in
    omega (arith, so_far, more, own, c.requires, c.len-count.ensures, item.ok.0)

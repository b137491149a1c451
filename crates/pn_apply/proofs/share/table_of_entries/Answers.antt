-- The entries are sorted by their keys, and hold the cells of the images.
use Rattle.std.proofs.Common.{◌≡◌, List, map, is_lt, ap, ◌∙◌, subst, rules}
use Rattle.std.proofs.lemmas.Cmp.{nat_list_cmp_total}
use Rattle.std.proofs.lemmas.Fn.{always_returns_same}
use Rattle.std.proofs.lemmas.List.Sorted.{ranks_by}
use Rattle.std.proofs.lemmas.Result.{IfOk-weaker}
use Rattle.std.specs.List.Sorted.{IsPermutation}
use Rattle.pn_record.specs.declared.records.Image.{Image}
use Rattle.pn_record.specs.Sets.{bytes_cmp}
use Rattle.pn_record.specs.Cells.{Entries, table_of}
use Rattle.pn_record.proofs.CellMaps.{held_table}
use Rattle.pn_apply.specs.Reducing.{entry_of}
use Rattle.pn_apply.proofs.Entries.{Entry, joined_in_any_order}
use Rattle.pn_apply.proofs.share.table_of_entries.Goals as goal

pub join_neighbours-requires : goal.join_neighbours-requires
join_neighbours-requires c =
    c.sort_unstable_by.ensures.sorted (λ (x y : Entry). is_lt (bytes_cmp x.0 y.0)) (ranks_by nat_list_cmp_total (λ (e : Entry). e.0))
    (always_returns_same _ _ _ (λ a r f k.
    let h : (r ≡ bytes_cmp a.0.now.0 a.1.0.now.0) × (f ≡ _) = search rules in
    (ap is_lt h.0, h.1)))

pub returns : goal.returns
returns c =
    let sorted = c.sort_unstable_by.new.self.items in
    let joined = c.in_ok-joined.joined.items in
    IfOk-weaker c.of_sorted.result (λ cells. cells ≡ joined) (λ cells. (images : List Image) → c.args.entries.now ≡ map entry_of images → cells ≡ table_of images)
    (λ cells is images are.
    let same : IsPermutation (map entry_of images) sorted = subst (λ (es : Entries). IsPermutation es sorted) (c.in_ok-sorted.ensures ∙ are) c.sort_unstable_by.ensures.permutation in
    is ∙ held_table joined images c.in_ok-joined.ensures.table.rising (λ key. c.in_ok-joined.ensures.cells key ∙ joined_in_any_order images sorted same key))
    c.of_sorted.ensures

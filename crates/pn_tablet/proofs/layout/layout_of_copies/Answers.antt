-- Copies are in the order in which their ranges begin.
use Rattle.std.proofs.Common.{◌≡◌, is_lt, ap, rules}
use Rattle.std.proofs.lemmas.Cmp.{nat_list_cmp_total}
use Rattle.std.proofs.lemmas.Fn.{always_returns_same}
use Rattle.std.proofs.lemmas.List.Sorted.{ranks_by}
use Rattle.std.specs.Cmp.Lexicographic.{options_total}
use Rattle.std.specs.Option.{option_cmp}
use Rattle.pn_record.specs.Sets.{bytes_cmp}
use Rattle.pn_tablet.specs.declared.copy.TabletCopy.{TabletCopy}
use Rattle.pn_tablet.proofs.layout.layout_of_copies.Goals as goal

pub returns-clause-order : goal.returns-clause-order
returns-clause-order c =
    c.sort_unstable_by.ensures.sorted (λ (x y : TabletCopy). is_lt (option_cmp bytes_cmp x.range.0 y.range.0)) (ranks_by (options_total nat_list_cmp_total) (λ (copy : TabletCopy). copy.range.0))
    (always_returns_same _ _ _ (λ a r f k.
    let h : (r ≡ option_cmp bytes_cmp a.0.now.range.0 a.1.0.now.range.0) × (f ≡ _) = search rules in
    (ap is_lt h.0, h.1)))

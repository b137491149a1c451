-- The bounds that are not greater come first, and the search counts them.
use Rattle.std.proofs.Common.{◌∙◌, ap, sym, subst, is_le, rules}
use Rattle.std.proofs.lemmas.List.Sorted.{IsPartitionPoint-from_clause}
use Rattle.std.specs.List.Sorted.{IsStrictlySortedBy}
use Rattle.pn_record.specs.Sets.{bytes_cmp}
use Rattle.pn_tablet.specs.Layouts.{Bounds, tablet_of}
use Rattle.pn_tablet.proofs.LayoutFacts.{partitioned_by_test, count_by_test}
use Rattle.pn_tablet.proofs.layout.Layout.tablet_of.Goals as goal

pub returns-clause-tablet : goal.returns-clause-tablet
returns-clause-tablet c =
    let bounds : Bounds = c.deref.result.now in
    let key = c.args.key.now in
    let index = c.partition_point.result in
    let rising : IsStrictlySortedBy bytes_cmp bounds = subst (λ (b : Bounds). IsStrictlySortedBy bytes_cmp b) (sym c.deref.ensures.value) c.self.invariant.rising in
    let point = IsPartitionPoint-from_clause (λ bound. is_le (bytes_cmp bound key)) bounds index c.partition_point.ensures.partitioned (partitioned_by_test bounds key rising) (λ a r f called. search rules) in
    count_by_test bounds key index rising c.partition_point.ensures.bound point ∙ ap (λ (b : Bounds). tablet_of b key) (c.deref.ensures.value ∙ c.self.view_is)

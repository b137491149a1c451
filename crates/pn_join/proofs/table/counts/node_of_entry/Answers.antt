-- The ends are divided where they pass the index.
use Rattle.std.proofs.Common.{leb, ◌∙◌, sym, rules}
use Rattle.std.proofs.lemmas.List.Sorted.{IsPartitionPoint-from_clause, IsPartitionedBy-leb}
use Rattle.pn_join.specs.declared.table.counts.Sizes.{Sizes}
use Rattle.pn_join.proofs.LeafListIndices.{counts_by}
use Rattle.pn_join.proofs.ListFacts.{prefix_at, prefix_len-map}
use Rattle.pn_join.proofs.table.counts.node_of_entry.Goals as goal

pub returns : goal.returns
returns c =
    let ends = c.args.ends.now in
    let index = c.args.index in
    let test = λ (end : Sizes). leb end.entries index in
    let point = IsPartitionPoint-from_clause test ends c.partition_point.result c.partition_point.ensures.partitioned
    (IsPartitionedBy-leb (λ (end : Sizes). end.entries) ends index c.requires) (λ a r f' called. search rules) in
    prefix_at test ends c.partition_point.result c.partition_point.ensures.bound point ∙ sym (prefix_len-map (counts_by index) (λ (end : Sizes). end.entries) ends)

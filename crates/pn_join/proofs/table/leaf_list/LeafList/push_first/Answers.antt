-- The only entry is that of the only leaf.
use Rattle.std.proofs.Common.{◌≡◌, ◌++◌, ◌∷◌, [], ap, ◌∙◌}
use Rattle.pn_join.specs.NodeLeaves.{entries_in}
use Rattle.pn_join.specs.Leaves.{all_entries}
use Rattle.pn_join.proofs.ListFacts.{one_entry}
use Rattle.pn_join.proofs.table.leaf_list.LeafList.push_first.Goals as goal

pub returns-clause-ok : goal.returns-clause-ok
returns-clause-ok g c =
    let is = c.in_ok-root.ensures ∙ c.push_reserved.ensures.items ∙ ap (λ es. es ++ (c.args.key, c.args.content) ∷ []) c.in_ok-entries.ensures.items in
    one_entry (all_entries c.in_ok-root.root) (c.args.key, c.args.content) c.recall_row.ensures.leaf_list.sizes is

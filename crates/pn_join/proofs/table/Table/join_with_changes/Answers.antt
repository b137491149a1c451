use Rattle.std.proofs.Common.{ap, ◌∙◌, rules}
use Rattle.pn_join.specs.Leaves.{all_entries}
use Rattle.pn_join.specs.Tables.{contents_at, key_by_key}
use Rattle.pn_join.proofs.table.Table.join_with_changes.Goals as goal

pub returns-then-told-clause-ok : goal.returns-then-told-clause-ok
returns-then-told-clause-ok g c =
    let cmp = g.K.Ord.cmp in
    let meaning = g.C.Join.meaning in
    let joined = g.C.Join.joined in
    c.in_ok-told.ensures.done (search rules)
    ∙ ap (λ es. key_by_key joined (contents_at cmp meaning es) (contents_at cmp meaning (all_entries c.other.inside.leaf_list))) c.self.view_is
    ∙ ap (λ es. key_by_key joined (contents_at cmp meaning c.args.self.now) (contents_at cmp meaning es)) c.other.view_is

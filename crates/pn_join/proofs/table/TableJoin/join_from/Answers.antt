use Rattle.std.proofs.Common.{ap, ◌∙◌}
use Rattle.pn_join.specs.Leaves.{all_entries}
use Rattle.pn_join.specs.Tables.{contents_at, key_by_key}
use Rattle.pn_join.proofs.table.TableJoin.join_from.Goals as goal

pub returns-else-not-branch-clause-ok : goal.returns-else-not-branch-clause-ok
returns-else-not-branch-clause-ok g c =
    let cmp = g.K.Ord.cmp in
    let meaning = g.C.Join.meaning in
    let joined = g.C.Join.joined in
    c.in_ok-join_all.ensures.done c.if-not-branch.false
    ∙ ap (λ es. key_by_key joined (contents_at cmp meaning es) (contents_at cmp meaning (all_entries c.other.inside.leaf_list))) c.self.view_is
    ∙ ap (λ es. key_by_key joined (contents_at cmp meaning c.args.self.now) (contents_at cmp meaning es)) c.other.view_is

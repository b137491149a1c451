use Rattle.std.proofs.Common.{sym, ap, ◌∙◌}
use Rattle.pn_join.specs.Indices.{index_of}
use Rattle.pn_join.proofs.Rising.{count_at_index, Rising-from_sorted}
use Rattle.pn_join.proofs.table.Table.lower_bound.Goals as goal

pub returns-in-Ok : goal.returns-in-Ok
returns-in-Ok g c =
    let cmp = g.K.Ord.cmp in
    let rising = rw c.self.view_is at c.in-Ok.ensures.leaf_list.table.rising in
    let count = count_at_index cmp c.args.key.now g.met.K.Ord.total c.args.self.now (Rising-from_sorted cmp _ rising) in
    rw (sym (c.in-Ok.ensures.index ∙ ap (index_of cmp c.args.key.now) c.self.view_is)) at count

pub returns-in-Err : goal.returns-in-Err
returns-in-Err g c =
    let cmp = g.K.Ord.cmp in
    let rising = rw c.self.view_is at c.in-Err.ensures.leaf_list.table.rising in
    let count = count_at_index cmp c.args.key.now g.met.K.Ord.total c.args.self.now (Rising-from_sorted cmp _ rising) in
    rw (sym (c.in-Err.ensures.index ∙ ap (index_of cmp c.args.key.now) c.self.view_is)) at count

use Rattle.std.proofs.Common.{is_lt, ap, ◌∙◌, sym}
use Rattle.pn_join.proofs.LeafListSearch.{last_tells}
use Rattle.pn_join.proofs.table.leaf.is_last_below.Goals as goal

pub returns-in-Some : goal.returns-in-Some
returns-in-Some g c =
    c.is_lt.ensures ∙ ap is_lt c.cmp.ensures
    ∙ sym (last_tells g.K.Ord.cmp c.args.key.now g.met.K.Ord.total c.args.entries.now c.in-Some.field-0.now c.in-Some.ensures.value)

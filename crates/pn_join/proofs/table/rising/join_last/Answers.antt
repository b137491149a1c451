use Rattle.std.proofs.Common.{ap, ◌∙◌}
use Rattle.std.proofs.lemmas.Result.{on_ok_weaker}
use Rattle.pn_join.specs.Indices.{index_of}
use Rattle.pn_join.proofs.IndexPuts.{among_of, joined_at_key}
use Rattle.pn_join.proofs.Rising.{Rising-from_sorted}
use Rattle.pn_join.proofs.table.rising.join_last.Goals as goal

pub join_one-requires-clause-index : goal.join_one-requires-clause-index
join_one-requires-clause-index g c =
    let at = c.index_at_end-index.ensures ∙ ap (index_of g.K.Ord.cmp c.args.key) c.deref.ensures.value in
    among_of g.K.Ord.cmp c.args.key c.args.entries.now.items c.index_at_end-index.result at

pub returns-clause-ok : goal.returns-clause-ok
returns-clause-ok g c =
    let es = c.args.entries.now.items in
    let at = c.index_at_end-index.ensures ∙ ap (index_of g.K.Ord.cmp c.args.key) c.deref.ensures.value in
    on_ok_weaker c.join_one.result
    (λ is. joined_at_key g.K.Ord.cmp c.args.key g.met.K.Ord.total g.C.Join.meaning g.C.Join.joined g.C.Join.valid c.args.content es c.join_one.new.entries.items c.index_at_end-index.result (Rising-from_sorted g.K.Ord.cmp es c.requires.table.rising) at is)
    c.join_one.ensures.ok

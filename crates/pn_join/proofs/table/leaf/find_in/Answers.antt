-- The content of the entry at the index is that at the key.
use Rattle.std.proofs.Common.{sym, ◌∙◌}
use Rattle.pn_join.proofs.Rising.{found_at_gap, Rising-from_sorted}
use Rattle.pn_join.proofs.Places.{content_at_tie}
use Rattle.pn_join.proofs.table.leaf.find_in.Goals as goal

pub returns-in-Ok-clause-found : goal.returns-in-Ok-clause-found
returns-in-Ok-clause-found g c = c.content_of.ensures ∙ content_at_tie g.K.Ord.cmp c.args.key.now c.args.entries.now c.in-Ok.place c.in-Ok.ensures.index

pub returns-in-Err-clause-found : goal.returns-in-Err-clause-found
returns-in-Err-clause-found g c =
    let cmp = g.K.Ord.cmp in
    let es = c.args.entries.now in
    sym (found_at_gap cmp c.args.key.now g.met.K.Ord.total es (Rising-from_sorted cmp es c.requires) c.in-Err.field-0 c.in-Err.ensures.index)

use Rattle.std.proofs.Common.{rules}
use Rattle.std.proofs.lemmas.Fn.{always_returns_same}
use Rattle.pn_join.proofs.Places.{index_from_search}
use Rattle.pn_join.proofs.Rising.{Rising-from_sorted}
use Rattle.pn_join.proofs.table.leaf_join.binary_search.Goals as goal

pub returns : goal.returns
returns g c =
    let found = c.binary_search_by.ensures.position (λ e. g.K.Ord.cmp e.0 c.args.key.now) (always_returns_same _ _ _ (λ a r f called. search rules)) in
    record { index = index_from_search g.K.Ord.cmp c.args.key.now g.met.K.Ord.total c.args.entries.now (Rising-from_sorted g.K.Ord.cmp _ c.requires) c.binary_search_by.result c.binary_search_by.ensures.bound found }

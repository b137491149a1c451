-- The key is put at its index, or is the first.
use Rattle.std.proofs.Common.{◌≡◌, [], length, ap, ◌∙◌, sym, arith}
use Rattle.std.proofs.lemmas.Result.{on_ok_weaker}
use Rattle.pn_join.specs.NodeLeaves.{entries_in}
use Rattle.pn_join.specs.Indices.{index_of}
use Rattle.pn_join.proofs.IndexPuts.{may_put, joined_at_key}
use Rattle.pn_join.proofs.Rising.{Rising-from_sorted}
use Rattle.pn_join.proofs.table.leaf_list.LeafList.join_entry.Goals as goal

pub join_in_row-joined-requires-clause-place : goal.join_in_row-joined-requires-clause-place
join_in_row-joined-requires-clause-place g c =
    let nodes = c.self.inside.root in
    may_put g.K.Ord.cmp c.args.key g.met.K.Ord.total g.C.Join.valid (entries_in nodes) c.find_key-index.result.0 c.find_key-index.ensures.row.leaf_list.table c.find_key-index.ensures.index

pub returns-clause-ok : goal.returns-clause-ok
returns-clause-ok g c =
    let nodes = c.self.inside.root in
    rw (← c.self.view_is) (on_ok_weaker c.join_in_row-joined.result
    (λ is. joined_at_key g.K.Ord.cmp c.args.key g.met.K.Ord.total g.C.Join.meaning g.C.Join.joined g.C.Join.valid c.args.content (entries_in nodes) (entries_in c.join_in_row-joined.new.self) c.find_key-index.result.0 (Rising-from_sorted g.K.Ord.cmp (entries_in nodes) c.find_key-index.ensures.row.leaf_list.table.rising) c.find_key-index.ensures.index is)
    c.join_in_row-joined.ensures.ok)

-- The key is looked for in the node that it belongs into.
use Rattle.std.proofs.Common.{[], length, take, get_or, ap, ◌∙◌, arith, rules}
use Rattle.pn_join.specs.NodeLeaves.{in_nodes}
use Rattle.pn_join.specs.Leaves.{all_entries}
use Rattle.pn_join.specs.PutAt.{moved_by}
use Rattle.pn_join.proofs.NodeFacts.{length-in_nodes}
use Rattle.pn_join.proofs.IndexPuts.{place_within}
use Rattle.pn_join.proofs.LeafListIndices.{leaf_for-inside}
use Rattle.pn_join.proofs.NodeAt.{index_in_row, found_in_row}
use Rattle.pn_join.proofs.table.row.Row.find_key.Goals as goal

pub found_at-requires-clause-node : goal.found_at-requires-clause-node
found_at-requires-clause-node g c =
    let list = in_nodes c.args.self.now in
    omega (arith, c.belongs.ensures.node c.if-belongs.true, leaf_for-inside g.K.Ord.cmp g.C.Join.valid c.args.key.now g.met.K.Ord.total list, length-in_nodes c.args.self.now)

pub found_at-requires-clause-place : goal.found_at-requires-clause-place
found_at-requires-clause-place g c =
    place_within g.K.Ord.cmp c.args.key.now (get_or (in_nodes c.args.self.now) c.guess-guess.result []) c.find_in-index.result.0 c.find_in-index.ensures.index

pub returns-then-belongs-clause-index : goal.returns-then-belongs-clause-index
returns-then-belongs-clause-index g c =
    let i = c.guess-guess.result in
    c.found_at.ensures.index ∙ ap (moved_by (length (all_entries (take i (in_nodes c.args.self.now))))) c.find_in-index.ensures.index
    ∙ index_in_row g.K.Ord.cmp g.C.Join.valid c.args.key.now g.met.K.Ord.total c.args.self.now c.find_in-index.ensures.row i (c.belongs.ensures.node c.if-belongs.true)

pub returns-then-belongs-clause-found : goal.returns-then-belongs-clause-found
returns-then-belongs-clause-found g c =
    c.found_at.ensures.content ∙ c.find_in-index.ensures.found
    ∙ found_in_row g.K.Ord.cmp g.C.Join.valid c.args.key.now g.met.K.Ord.total c.args.self.now c.find_in-index.ensures.row c.guess-guess.result (c.belongs.ensures.node c.if-belongs.true)

pub found_at-requires-2-clause-node : goal.found_at-requires-2-clause-node
found_at-requires-2-clause-node g c =
    let list = in_nodes c.args.self.now in
    omega (arith, c.search_node-node.ensures.node, leaf_for-inside g.K.Ord.cmp g.C.Join.valid c.args.key.now g.met.K.Ord.total list, length-in_nodes c.args.self.now)

pub found_at-requires-2-clause-place : goal.found_at-requires-2-clause-place
found_at-requires-2-clause-place g c =
    place_within g.K.Ord.cmp c.args.key.now (get_or (in_nodes c.args.self.now) c.search_node-node.result []) c.find_in-index-2.result.0 c.find_in-index-2.ensures.index

pub returns-clause-index : goal.returns-clause-index
returns-clause-index g c =
    let i = c.search_node-node.result in
    c.found_at-2.ensures.index ∙ ap (moved_by (length (all_entries (take i (in_nodes c.args.self.now))))) c.find_in-index-2.ensures.index
    ∙ index_in_row g.K.Ord.cmp g.C.Join.valid c.args.key.now g.met.K.Ord.total c.args.self.now c.find_in-index.ensures.row i c.search_node-node.ensures.node

pub returns-clause-found : goal.returns-clause-found
returns-clause-found g c =
    c.found_at-2.ensures.content ∙ c.find_in-index-2.ensures.found
    ∙ found_in_row g.K.Ord.cmp g.C.Join.valid c.args.key.now g.met.K.Ord.total c.args.self.now c.find_in-index.ensures.row c.search_node-node.result c.search_node-node.ensures.node

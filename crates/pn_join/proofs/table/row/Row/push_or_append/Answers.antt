-- The nodes without the last, and the last with what is added.
use Rattle.std.proofs.Common.{◌≡◌, ◌++◌, sym, ap, ◌∙◌, subst, append_assoc, append-nil}
use Rattle.std.proofs.lemmas.Result.{on_ok_weaker}
use Rattle.pn_join.specs.NodeLeaves.{entries_in}
use Rattle.pn_join.specs.Leaves.{all_entries}
use Rattle.pn_join.specs.Nodes.{node_of}
use Rattle.pn_join.specs.Tables.{IsTable}
use Rattle.pn_join.proofs.NodeGrowth.{entries_push}
use Rattle.pn_join.proofs.RowEnds.{last_node}
use Rattle.pn_join.proofs.table.row.Row.push_or_append.Goals as goal

pub push_both-requires-clause-table : goal.push_both-requires-clause-table
push_both-requires-clause-table g c =
    let own = c.args.self.now in
    let rest = c.pop.new.self in
    let node = g.T.Node.leaves (node_of c.args.child) in
    let last = g.T.Node.leaves (node_of c.in-Some.last) in
    let parts = last_node g.K.Ord.cmp g.C.Join.valid own rest last c.in-Some.ensures.last c.pop.ensures.row in
    let whole : entries_in own ++ all_entries node ≡ entries_in rest ++ (all_entries last ++ all_entries node) = ap (λ es. es ++ all_entries node) parts.0 ∙ append_assoc (entries_in rest) (all_entries last) (all_entries node) in
    subst (λ es. IsTable g.K.Ord.cmp g.C.Join.valid es) whole c.requires.table

pub push_both-requires-clause-some : goal.push_both-requires-clause-some
push_both-requires-clause-some g c =
    let last = g.T.Node.leaves (node_of c.in-Some.last) in
    let parts = last_node g.K.Ord.cmp g.C.Join.valid c.args.self.now c.pop.new.self last c.in-Some.ensures.last c.pop.ensures.row in
    (parts.1, c.requires.some)

pub push_both-requires-clause-sizes : goal.push_both-requires-clause-sizes
push_both-requires-clause-sizes g c =
    let last = g.T.Node.leaves (node_of c.in-Some.last) in
    let parts = last_node g.K.Ord.cmp g.C.Join.valid c.args.self.now c.pop.new.self last c.in-Some.ensures.last c.pop.ensures.row in
    (parts.2, c.requires.sizes)

pub returns-in-Some : goal.returns-in-Some
returns-in-Some g c =
    let own = c.args.self.now in
    let rest = c.pop.new.self in
    let node = g.T.Node.leaves (node_of c.args.child) in
    let last = g.T.Node.leaves (node_of c.in-Some.last) in
    let parts = last_node g.K.Ord.cmp g.C.Join.valid own rest last c.in-Some.ensures.last c.pop.ensures.row in
    let whole : entries_in own ++ all_entries node ≡ entries_in rest ++ (all_entries last ++ all_entries node) = ap (λ es. es ++ all_entries node) parts.0 ∙ append_assoc (entries_in rest) (all_entries last) (all_entries node) in
    on_ok_weaker c.push_both.result (λ is. is ∙ sym whole) c.push_both.ensures

pub push-requires-clause-table : goal.push-requires-clause-table
push-requires-clause-table g c =
    let node = g.T.Node.leaves (node_of c.args.child) in
    let rest = c.pop.new.self in
    let same : c.args.self.now ≡ rest = c.in-None.ensures.last ∙ append-nil rest in
    subst (λ nodes. IsTable g.K.Ord.cmp g.C.Join.valid (entries_in nodes ++ all_entries node)) same c.requires.table

pub returns-in-None : goal.returns-in-None
returns-in-None g c =
    let node = g.T.Node.leaves (node_of c.args.child) in
    let rest = c.pop.new.self in
    let same : c.args.self.now ≡ rest = c.in-None.ensures.last ∙ append-nil rest in
    on_ok_weaker c.push.result (λ is. ap entries_in is ∙ entries_push rest node ∙ ap (λ nodes. entries_in nodes ++ all_entries node) (sym same)) c.push.ensures.ok

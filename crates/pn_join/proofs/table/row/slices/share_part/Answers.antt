-- A part of a node's entries is a table, and up to its end.
use Rattle.std.proofs.Common.{◌≡◌, min, length, slice_range, ap, ◌∙◌}
use Rattle.pn_join.specs.Leaves.{all_entries}
use Rattle.pn_join.proofs.NodeGrowth.{slice_to_end, whole_slice}
use Rattle.pn_join.proofs.table.row.slices.share_part.Goals as goal

pub returns-clause-part : goal.returns-clause-part
returns-clause-part g c =
    let es = all_entries (g.T.Node.leaves c.node-whole.result.now) in
    let end = c.min-end.result in
    let at : end ≡ min c.args.to (length es) = c.min-end.ensures ∙ ap (min c.args.to) c.sizes-len.ensures.entries in
    ap (λ n. all_entries (g.T.Node.leaves n)) c.seal.ensures
    ∙ c.in_ok-part.ensures.part
    ∙ slice_to_end es c.args.from c.args.to end at
    ∙ ap (λ n. slice_range (all_entries (g.T.Node.leaves n)) c.args.from c.args.to) c.node-whole.ensures

use Rattle.std.proofs.Common.{length, take, ap, ◌∙◌, arith}
use Rattle.pn_join.specs.NodeLeaves.{in_nodes}
use Rattle.pn_join.specs.PutAt.{moved_by}
use Rattle.pn_join.proofs.NodeFacts.{all_in_nodes}
use Rattle.pn_join.proofs.LeafListIndices.{leaf_within}
use Rattle.pn_join.proofs.table.row.Row.found_at.Goals as goal

pub moved_by-requires : goal.moved_by-requires
moved_by-requires g c =
    let nodes = c.args.self.now in
    omega (arith, c.requires.place, leaf_within (in_nodes nodes) c.args.node, c.start.ensures.entries, c.start.ensures.fits.0, ap length (all_in_nodes nodes))

pub returns-clause-index : goal.returns-clause-index
returns-clause-index g c = c.moved_by.ensures ∙ ap (λ n. moved_by n c.args.index) c.start.ensures.entries

-- The count before a node is the end of the one before it.
use Rattle.pn_join.specs.declared.table.counts.Sizes.{Sizes}
use Rattle.pn_join.proofs.CountsFacts.{end_before_at}
use Rattle.pn_join.proofs.table.counts.start_of.Goals as goal

pub returns-clause-entries : goal.returns-clause-entries
returns-clause-entries c = end_before_at (λ (end : Sizes). end.entries) c.args.ends.now c.args.index _ c.if-index-eq0.false c.requires

pub returns-clause-leaves : goal.returns-clause-leaves
returns-clause-leaves c = end_before_at (λ (end : Sizes). end.leaves) c.args.ends.now c.args.index _ c.if-index-eq0.false c.requires

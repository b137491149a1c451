use Rattle.pn_join.proofs.Building.{reversed_parts}
use Rattle.pn_join.proofs.table.leaf.take_leaf.Goals as goal

pub returns-clause-parted : goal.returns-clause-parted
returns-clause-parted g c = rw (c.move_from.ensures.back, c.move_from.ensures.prefix, c.in_ok-leaf.ensures.items) (reversed_parts c.args.left.now.items _)

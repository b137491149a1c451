-- A key lies in the range where it passes the tests of both ends.
use Rattle.std.specs.Option.{option_copied}
use Rattle.pn_tablet.proofs.Within.{lie_in-then, lie_in-else}
use Rattle.pn_tablet.proofs.range.lie_in.Goals as goal

pub returns-then-begin_at : goal.returns-then-begin_at
returns-then-begin_at c =
    lie_in-then c.args.range.now (option_copied c.from.result) (option_copied c.to.result) c.args.cells.now _ _
    c.begin_at.ensures c.from.ensures.from c.if-begin_at.true c.end_before.ensures c.to.ensures.to

pub returns-else-begin_at : goal.returns-else-begin_at
returns-else-begin_at c = lie_in-else c.args.range.now (option_copied c.from.result) c.args.cells.now _ c.begin_at.ensures c.from.ensures.from c.if-begin_at.false

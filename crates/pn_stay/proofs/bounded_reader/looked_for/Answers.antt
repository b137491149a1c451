-- The line is kept if there is memory for it.
use Rattle.std.proofs.Common.{ap, sym, None}
use Rattle.pn_stay.specs.Looks.{under}
use Rattle.pn_stay.proofs.bounded_reader.looked_for.Goals as goal

pub returns-in-Pending : goal.returns-in-Pending
returns-in-Pending c = (c.asked_line.result, c.asked_line.ensures, ap (under c.asked_line.result) (sym c.in-Pending.is))

pub returns-in-Done : goal.returns-in-Done
returns-in-Done c = (None, tt, ap (under None) (sym c.in-Done.is))

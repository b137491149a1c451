-- The error of each fault, unless memory runs out.
use Rattle.pn_protocol.proofs.reply.refusals.copy_error.Goals as goal

pub returns-in-Recovering : goal.returns-in-Recovering
returns-in-Recovering c = rw c.in-Recovering.is ((λ is. cc), c.tablet_error.ensures)

pub returns-in-Behind : goal.returns-in-Behind
returns-in-Behind c = rw c.in-Behind.is ((λ is. cc), c.short_error.ensures)

pub returns-in-NoEntry : goal.returns-in-NoEntry
returns-in-NoEntry c = rw c.in-NoEntry.is ((λ is. cc), c.error_reply.ensures)

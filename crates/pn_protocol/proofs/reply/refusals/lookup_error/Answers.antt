-- The error of each fault, unless memory runs out.
use Rattle.pn_protocol.specs.Reply.Faults.{lookup_fault_data}
use Rattle.pn_protocol.proofs.reply.refusals.lookup_error.Goals as goal

pub returns-in-Recovering : goal.returns-in-Recovering
unfolding lookup_fault_data
returns-in-Recovering c = rw c.in-Recovering.is ((λ is. cc), c.tablet_error.ensures)

pub returns-in-Behind : goal.returns-in-Behind
unfolding lookup_fault_data
returns-in-Behind c = rw c.in-Behind.is ((λ is. cc), c.error_reply.ensures)

pub returns-in-NoEntry : goal.returns-in-NoEntry
unfolding lookup_fault_data
returns-in-NoEntry c = rw c.in-NoEntry.is ((λ is. cc), c.error_reply-in-NoEntry.ensures)

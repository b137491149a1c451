-- The error of each fault, unless memory runs out.
use Rattle.pn_protocol.proofs.reply.refusals.relayout_error.Goals as goal

pub returns-in-StillRecovering : goal.returns-in-StillRecovering
returns-in-StillRecovering c = rw c.in-StillRecovering.is ((λ is. cc), c.tablet_error.ensures)

-- The error of each fault, unless memory runs out.
use Rattle.pn_protocol.specs.Reply.Faults.{round_fault_data}
use Rattle.pn_protocol.proofs.reply.refusals.round_error.Goals as goal

pub returns-in-Gap : goal.returns-in-Gap
unfolding round_fault_data
returns-in-Gap c = rw c.in-Gap.is ((λ is. cc), c.short_error.ensures)

pub returns-in-TooManyStreams : goal.returns-in-TooManyStreams
unfolding round_fault_data
returns-in-TooManyStreams c = rw c.in-TooManyStreams.is ((λ is. cc), c.error_reply.ensures)

-- The error of each fault, unless memory runs out.
use Rattle.pn_protocol.specs.Reply.Faults.{advance_fault_data}
use Rattle.pn_protocol.proofs.reply.refusals.advance_error.Goals as goal

pub returns-in-TooManyStreams : goal.returns-in-TooManyStreams
unfolding advance_fault_data
returns-in-TooManyStreams c = rw c.in-TooManyStreams.is ((λ is. cc), c.error_reply.ensures)

-- The error of each fault, unless memory runs out.
use Rattle.pn_protocol.proofs.reply.refusals.adoption_error.Goals as goal

pub returns-in-WrongRange : goal.returns-in-WrongRange
returns-in-WrongRange c = rw c.in-WrongRange.is ((λ is. cc), c.error_reply.ensures)

pub returns-in-TooOld : goal.returns-in-TooOld
returns-in-TooOld c = rw c.in-TooOld.is ((λ is. cc), c.too_old_error.ensures)

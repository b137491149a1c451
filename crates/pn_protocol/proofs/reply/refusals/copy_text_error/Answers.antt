-- The error of each fault, unless memory runs out.
use Rattle.pn_protocol.proofs.reply.refusals.copy_text_error.Goals as goal

pub returns-in-Truncated : goal.returns-in-Truncated
returns-in-Truncated c = rw c.in-Truncated.is ((λ is. cc), c.error_reply.ensures)

pub returns-in-BadLine : goal.returns-in-BadLine
returns-in-BadLine c = rw c.in-BadLine.is ((λ is. cc), c.line_error.ensures)

pub returns-in-OutsideRange : goal.returns-in-OutsideRange
returns-in-OutsideRange c = rw c.in-OutsideRange.is ((λ is. cc), c.line_error-in-OutsideRange.ensures)

pub returns-in-NotRising : goal.returns-in-NotRising
returns-in-NotRising c = rw c.in-NotRising.is ((λ is. cc), c.line_error-in-NotRising.ensures)

pub returns-in-BadEnd : goal.returns-in-BadEnd
returns-in-BadEnd c = rw c.in-BadEnd.is ((λ is. cc), c.error_reply-in-BadEnd.ensures)

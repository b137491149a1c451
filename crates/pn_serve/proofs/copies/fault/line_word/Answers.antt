-- Each word is the error of the reply to its fault.
use Rattle.std.proofs.Common.{ap}
use Rattle.pn_protocol.specs.Reply.Faults.{copy_text_fault_data}
use Rattle.pn_serve.proofs.copies.fault.line_word.Goals as goal

pub returns-in-Truncated : goal.returns-in-Truncated
returns-in-Truncated c = (_, ap copy_text_fault_data c.in-Truncated.is)

pub returns-in-BadLine : goal.returns-in-BadLine
returns-in-BadLine c = (_, ap copy_text_fault_data c.in-BadLine.is)

pub returns-in-OutsideRange : goal.returns-in-OutsideRange
returns-in-OutsideRange c = (_, ap copy_text_fault_data c.in-OutsideRange.is)

pub returns-in-NotRising : goal.returns-in-NotRising
returns-in-NotRising c = (_, ap copy_text_fault_data c.in-NotRising.is)

pub returns-in-BadEnd : goal.returns-in-BadEnd
returns-in-BadEnd c = (_, ap copy_text_fault_data c.in-BadEnd.is)

pub returns-in-Memory : goal.returns-in-Memory
returns-in-Memory c = (_, ap copy_text_fault_data c.in-Memory.is)

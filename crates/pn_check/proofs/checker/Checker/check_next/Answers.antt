-- A last part without a byte is no line, and all else is one.
use Rattle.pn_check.proofs.CheckedLines.{next_line, no_line}
use Rattle.pn_check.proofs.checker.Checker.check_next.Goals as goal

pub returns-then-is_no_line : goal.returns-then-is_no_line
returns-then-is_no_line c = λ text is. no_line c.args.self.now c.args.line.now c.args.ended c.is_no_line.result text c.requires c.is_no_line.ensures c.if-is_no_line.true is

pub returns : goal.returns
returns c = λ text is.
    next_line c.args.self.now c.tell_next.new.self c.args.line.now c.args.ended c.is_no_line.result _ text c.requires c.is_no_line.ensures c.if-is_no_line.false is c.tell_next.ensures

use Rattle.pn_protocol.specs.Command.Controls.{control_value}
use Rattle.pn_protocol.proofs.CommandLines.{answer_long, answer_short, control_answer_found as answer_found, control_answer_again as answer_again}
use Rattle.pn_protocol.proofs.command.control.control_of.Goals as goal

pub returns-clause-found : goal.returns-clause-found
returns-clause-found c = answer_found _ control_value c.parse_line.result c.parse_line.ensures.exact

pub returns-clause-only : goal.returns-clause-only
returns-clause-only c = λ command is. answer_again _ control_value c.parse_line.result command c.parse_line.ensures.exact is

pub returns-clause-too_long : goal.returns-clause-too_long
returns-clause-too_long c = answer_long _ c.parse_line.result c.parse_line.ensures.too_long

pub returns-clause-memory : goal.returns-clause-memory
returns-clause-memory c = answer_short _ c.parse_line.result c.parse_line.ensures.too_long

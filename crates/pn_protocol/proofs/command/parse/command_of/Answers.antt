use Rattle.pn_protocol.specs.Command.Meaning.{command_value}
use Rattle.pn_protocol.proofs.CommandLines.{answer_found, answer_again, answer_long, answer_short}
use Rattle.pn_protocol.proofs.command.parse.command_of.Goals as goal

pub returns-clause-found : goal.returns-clause-found
returns-clause-found c = answer_found _ command_value c.parse_allowed.result c.parse_allowed.ensures.exact

pub returns-clause-only : goal.returns-clause-only
returns-clause-only c = λ command is. answer_again _ command_value c.parse_allowed.result command c.parse_allowed.ensures.exact is

pub returns-clause-too_long : goal.returns-clause-too_long
returns-clause-too_long c = answer_long _ c.parse_allowed.result c.parse_allowed.ensures.too_long

pub returns-clause-memory : goal.returns-clause-memory
returns-clause-memory c = answer_short _ c.parse_allowed.result c.parse_allowed.ensures.too_long

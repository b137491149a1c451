use Rattle.pn_protocol.proofs.CommandLines.{one_command}
use Rattle.pn_protocol.proofs.command.parse.a_line_is_one_command.Goals as goal

pub returns : goal.returns
returns c = one_command

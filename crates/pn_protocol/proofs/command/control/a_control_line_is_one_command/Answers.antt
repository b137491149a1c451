use Rattle.pn_protocol.proofs.CommandLines.{control_one_command as one_command}
use Rattle.pn_protocol.proofs.command.control.a_control_line_is_one_command.Goals as goal

pub returns : goal.returns
returns c = one_command

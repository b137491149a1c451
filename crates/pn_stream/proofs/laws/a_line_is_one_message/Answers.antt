use Rattle.pn_stream.proofs.SameMessage.{message_line_unique}
use Rattle.pn_stream.proofs.laws.a_line_is_one_message.Goals as goal

pub returns : goal.returns
returns c = message_line_unique

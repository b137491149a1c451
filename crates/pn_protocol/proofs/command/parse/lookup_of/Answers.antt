use Rattle.pn_protocol.proofs.CommandLines.{answer_short}
use Rattle.pn_protocol.proofs.command.parse.lookup_of.Goals as goal

pub returns-clause-memory : goal.returns-clause-memory
returns-clause-memory c = answer_short _ c.parse_allowed.result c.parse_allowed.ensures.too_long

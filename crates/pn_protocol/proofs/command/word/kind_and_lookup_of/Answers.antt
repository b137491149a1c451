-- A line that is too long is refused as that, so memory did not run out.
use Rattle.pn_protocol.proofs.CommandLines.{answer_short}
use Rattle.pn_protocol.proofs.command.word.kind_and_lookup_of.Goals as goal

pub returns-clause-memory : goal.returns-clause-memory
returns-clause-memory c = answer_short _ c.parse_with_kind.result.1 c.parse_with_kind.ensures.too_long

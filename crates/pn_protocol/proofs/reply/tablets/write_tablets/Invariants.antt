-- The tablets so far were written.
use Rattle.std.proofs.Common.{map, take}
use Rattle.pn_protocol.specs.Reply.Short.{tablet_data}
use Rattle.pn_json.specs.Tokens.{Appends, values_tokens}
use Rattle.pn_protocol.proofs.reply.tablets.write_tablets.Given as goal

abbrev pub invariant-loop-number : goal.invariant-loop-number
invariant-loop-number g l = Appends l.initial.writer l.writer (values_tokens (map tablet_data (take l.number (g.T.ShownTablets.tablets l.region))))

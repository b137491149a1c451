-- What is shown so far was written.
use Rattle.std.proofs.Common.{map, take}
use Rattle.pn_json.specs.Tokens.{Appends, values_tokens}
use Rattle.pn_protocol.proofs.reply.scan.write_array.Given as goal

abbrev pub invariant-loop-item : goal.invariant-loop-item
invariant-loop-item g l = Appends l.initial.writer l.writer (values_tokens (map g.T.Shown.value (take l.item-index l.list)))

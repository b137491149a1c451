-- The details so far were written.
use Rattle.std.proofs.Common.{take}
use Rattle.pn_json.specs.Tokens.{Appends}
use Rattle.pn_protocol.specs.Reply.Faults.{details_tokens}
use Rattle.pn_protocol.proofs.reply.refusals.write_details.Given as goal

abbrev pub invariant-loop-detail : goal.invariant-loop-detail
invariant-loop-detail l = Appends l.initial.writer l.writer (details_tokens (take l.detail-index l.details))

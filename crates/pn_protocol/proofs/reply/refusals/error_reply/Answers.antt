-- The text is the line of the value that was written.
use Rattle.std.proofs.lemmas.Result.{IfOk-weaker}
use Rattle.pn_json.proofs.AppendedTexts.{has_value}
use Rattle.pn_protocol.specs.Reply.Faults.{details_members, error_data}
use Rattle.pn_protocol.proofs.reply.refusals.error_reply.Goals as goal

pub returns : goal.returns
returns c =
    let value = error_data c.args.name.now (details_members c.args.details.now) in
    IfOk-weaker c.finish_line.result _ _ (λ text is. is value (has_value value _ _ c.in_ok-writer.ensures c.in_ok-write_error.ensures)) c.finish_line.ensures

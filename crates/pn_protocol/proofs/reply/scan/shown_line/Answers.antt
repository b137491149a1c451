-- The text is the line of the value that was written.
use Rattle.std.proofs.lemmas.Result.{IfOk-weaker}
use Rattle.pn_json.proofs.AppendedTexts.{has_value}
use Rattle.pn_protocol.proofs.reply.scan.shown_line.Goals as goal

pub returns : goal.returns
returns g c =
    let value = g.T.Shown.value c.args.shown.now in
    IfOk-weaker c.finish_line.result _ _ (λ text is. is value (has_value value _ _ c.in_ok-writer.ensures c.in_ok-write.ensures)) c.finish_line.ensures

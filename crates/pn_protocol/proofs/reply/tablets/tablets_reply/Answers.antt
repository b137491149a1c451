-- The text is the line of the value that was written.
use Rattle.std.proofs.lemmas.Result.{IfOk-weaker}
use Rattle.pn_protocol.specs.Reply.Short.{tablets_data}
use Rattle.pn_json.proofs.AppendedTexts.{has_value}
use Rattle.pn_protocol.proofs.reply.tablets.tablets_reply.Goals as goal

pub returns : goal.returns
returns g c =
    let value = tablets_data (g.T.ShownTablets.tablets c.args.region.now) in
    IfOk-weaker c.finish_line.result _ _ (λ text is. is value (has_value value _ _ c.in_ok-writer.ensures c.in_ok-write_tablets_object.ensures)) c.finish_line.ensures
